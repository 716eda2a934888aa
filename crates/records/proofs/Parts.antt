-- A component's name is new: by a search of its class up to it, and in a run of records. Assumes nothing.
use Rattle.std.proofs.Common.{◌≡◌, ℕ, suc, ◌+◌, ◌-◌, ◌*◌, ◌/◌, ◌<◌, ◌≤◌, Bool, eqb, List, length, sym, ap, ◌∙◌, add-zero, mul_comm, add-sub_of_le, le-div_iff_mul-le, zero-add, mul-suc, arith}
use native.Mathlib.Nat.{mul-div_right}
use Rattle.fields.specs.Scan.{first_bad}
use Rattle.fields.proofs.Scan.{bad-shift, bad-same-on, list_length, list_at}
use Rattle.header.specs.declared.layout.Kind.TheVariants.{Component}
use Rattle.header.specs.Layout.{count_of, record_at, records_of}
use Rattle.header.proofs.Inside.{record_of}
use Rattle.records.specs.Fields.{component_name}
use Rattle.records.specs.Rules.{record_in, run_record, run_records, other_name, new_name_from}

-- a name is new where a search of the class up to it finds none before it
pub fresh-by : (records : List (List ℕ)) (i start r : ℕ) → start ≤ i
    → r ≡ first_bad (λ j. other_name (component_name (record_in records i)) (record_in records j)) (i - start) start
    → eqb r i ≡ new_name_from start records i
fresh-by records i start r low found = rw (found, add-sub_of_le low)

-- a search of n places that are others from `from` on
pub bad-placed : (f rule : ℕ → Bool) (n from : ℕ) → ((q : ℕ) → q < n → f q ≡ rule (from + q)) → from + first_bad f n 0 ≡ first_bad rule n from
bad-placed f rule n from same =
    ap (λ (k : ℕ). from + k) (bad-same-on f (λ q. rule (from + q)) n 0 (λ q low high. same q (omega arith)))
    ∙ sym (bad-shift rule from n 0) ∙ ap (first_bad rule n) (add-zero from)

-- ---- a search of a run of n component records, which are those of other places from `from` on
pub run-bad : (run : List ℕ) (n from : ℕ) (other : ℕ → List ℕ) → length run ≡ 40 * n
    → ((q : ℕ) → q < n → run_record 40 run q ≡ other (from + q)) → (rule : List ℕ → Bool)
    → from + first_bad (λ q. rule (run_record 40 run q)) (length run / 40) 0 ≡ first_bad (λ j. rule (other j)) n from
run-bad run n from other long same rule =
    let count : length run / 40 ≡ n = ap (λ (k : ℕ). k / 40) long ∙ mul-div_right n (omega arith) in
    ap (λ (k : ℕ). from + first_bad (λ q. rule (run_record 40 run q)) k 0) count
    ∙ bad-placed (λ q. rule (run_record 40 run q)) (λ j. rule (other j)) n from (λ q h. ap rule (same q h))

-- ---- the same searches by the list of the records: of an image, and of a run
pub listed : (im : List ℕ) (rule : List ℕ → Bool) (n k : ℕ) → k + n ≤ count_of im Component
    → first_bad (λ j. rule (record_at im Component j)) n k ≡ first_bad (λ j. rule (record_in (records_of im Component) j)) n k
listed im rule n k h = bad-same-on _ _ n k (λ i low high. ap rule (sym (record_of im Component i (omega arith))))

module _ (size : ℕ) (run : List ℕ) where
  pub run-count : length (run_records size run) ≡ length run / size
  unfolding run_records
  run-count = list_length (run_record size run) (length run / size) 0

  pub run_inside : 1 ≤ size → (j : ℕ) → j < length run / size → size * j + size ≤ length run
  run_inside some j h =
      let m : suc j * size ≡ size * j + size = mul_comm (suc j) size ∙ mul-suc size j in
      omega (arith, (le-div_iff_mul-le some).0 h)

  pub run-record : (j : ℕ) → j < length run / size → record_in (run_records size run) j ≡ run_record size run j
  unfolding run_records
  run-record j h = list_at (run_record size run) (length run / size) 0 j _ h ∙ rw zero-add
