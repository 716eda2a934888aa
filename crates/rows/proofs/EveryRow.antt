-- Where rows of unknown tags may be read, every row may. Assumes nothing.
use Prim.Native.Nat.{ℕ, zero, suc, ◌*◌, ◌/◌, min}
use mathlib.Core.Path.{◌≡◌, sym, ap, ◌∙◌}
use mathlib.Core.Bool.{Bool, true, false, cond, false≢true, ◌||◌}
use mathlib.Core.List.{List, [], ◌∷◌}
use native.Mathlib.Nat.{zero-mul, suc-mul}
use native.Mathlib.Omega.{arith}
use lib.ListN.{length}
use Rattle.header.specs.declared.edition.Edition.{Edition}
use Rattle.header.specs.declared.edition.Edition.TheVariants.{One, Two}
use Rattle.header.specs.Layout.{edition_of}
use Rattle.image.specs.Lookup.{label_of_tag}
use Rattle.labels.specs.Label.{label_at}
use Rattle.access.specs.Rights.{Rights}
use Rattle.access.specs.Verdicts.{reads_all, read_tests, reads_label, known_tag, unknown_rule, unknown_read, may_read}
use Rattle.rows.specs.Run.{IsRun, row_offset, offset_of, run_rows, kept}
use Rattle.rows.specs.Table.{row_tag, row_readable}
use Rattle.rows.proofs.Standing.{AllWide, rows-wide, flat-whole}
use Rattle.rows.proofs.Wide.{flatten-length, rows-count}
use Rattle.rows.proofs.ByMap.{kept-all}

-- ---- any test that all rows pass
module _ (test : List ℕ → Bool) (all : (row : List ℕ) → test row ≡ true) where
  -- the n-th row stands after n rows
  offset-all : (w n : ℕ) (rows : List (List ℕ)) → AllWide w rows → offset_of test n rows ≡ min n (length rows) * w
  unfolding offset_of
  offset-all w n [] wide = let none : min n 0 ≡ 0 = omega arith in sym (rw none (zero-mul w))
  offset-all w zero (row ∷ rows) wide =
      let none : min 0 (length (row ∷ rows)) ≡ 0 = omega arith in
      rw (all row, none) (sym (zero-mul w))
  offset-all w (suc n) (row ∷ rows) wide =
      let later : offset_of test n rows ≡ min n (length rows) * w = offset-all w n rows wide.1 in
      let one : min (suc n) (suc (length rows)) ≡ suc (min n (length rows)) = omega arith in
      let here : length row ≡ w = wide.0 in
      rw (all row, one) (omega (arith, suc-mul (min n (length rows)) w))

  pub nth-all : (run : List ℕ) (w : ℕ) → IsRun run w → (n : ℕ) → offset_of test n (run_rows run w) ≡ row_offset w (min n (length run / w))
  nth-all run w whole n =
      offset-all w n (run_rows run w) (rows-wide run w whole) ∙ ap (λ (k : ℕ). min n k * w) (rows-count run w)

-- so many rows are the whole run
pub whole-offset : (run : List ℕ) (w : ℕ) → IsRun run w → length run ≡ row_offset w (length run / w)
whole-offset run w whole =
    sym (ap length (flat-whole run w whole)) ∙ flatten-length w (run_rows run w) (rows-wide run w whole) ∙ ap (λ (k : ℕ). k * w) (rows-count run w)

-- ---- the test on the tag
module _ (im : List ℕ) (rights : Rights) (seen : unknown_read im rights ≡ true) where
  reads_all_lem : reads_all rights ≡ true
  reads_all_lem = at (edition_of im) seen
    where
      at : (edition : Edition) → unknown_rule edition (reads_all rights) ≡ true → reads_all rights ≡ true
      at One e = e
      at Two e = absurd (false≢true e)

  pub every-row : (row : List ℕ) → row_readable im rights row ≡ true
  unfolding may_read reads_label
  every-row row = at (known_tag im (row_tag row))
    where
      at : (t : Bool)
          → cond t (reads_all rights || read_tests rights (label_at im (label_of_tag im (row_tag row)))) (unknown_read im rights) ≡ true
      at true = rw reads_all_lem
      at false = seen

  pub every-kept : (rows : List (List ℕ)) → kept (row_readable im rights) rows ≡ rows
  every-kept = kept-all (row_readable im rights) every-row
