use Prim.Native.Nat.{ℕ, ◌+◌, ◌-◌, ◌*◌, ◌^◌, ◌≤◌, ◌<◌, min}
use mathlib.Core.Path.{◌≡◌, refl, sym, ap, subst, ◌∙◌}
use mathlib.Core.Bool.{Bool}
use mathlib.Core.List.{List}
use native.Mathlib.Nat.{add-zero}
use native.Mathlib.Omega.{arith}
use lib.ListN.{length, take, drop}
use Rattle.fields.specs.Bytes.{part}
use Rattle.sets.specs.Sets.{collect}
use Rattle.header.specs.declared.edition.Edition.{Edition}
use Rattle.header.specs.declared.layout.Kind.TheVariants.{Label}
use Rattle.header.specs.declared.layout.Shape.{Shape}
use Rattle.header.specs.declared.walk.RecordAt.{RecordAt}
use Rattle.header.specs.Layout.{record_size, record_offset, labels, Fitted, Shaped, Standing}
use Rattle.header.proofs.Inside.{slot-below, record-upto}
use Rattle.labels.specs.Label.{record_label}
use Rattle.access.specs.Rights.{rights_of}
use Rattle.access.specs.Verdicts.{reads_label}
use Rattle.maps.specs.Map.{reads_record}
use Rattle.maps.proofs.Bits.{word-upto}
use Rattle.maps.proofs.Runs.{Run, run-joined, size_is, run_fits, run-whole, run-count, run-reads}
use Rattle.maps.proofs.words.map_word.Invariants.{told}
use Rattle.maps.proofs.words.map_word.Goals as goal

-- the shape counts the labels
count-is : {im : List ℕ} {shape : Shape} → Shaped im Label shape → shape.count ≡ labels im
count-is s = ap (λ (x : Shape). x.count) s.is

-- from the place where the walk stands, n records of its block
run_of : {im : List ℕ} {shape : Shape} {here : RecordAt} {n count : ℕ} (k i : ℕ) → Fitted im → Shaped im Label shape → Standing shape (64 * k + i) here
    → i < count → count ≡ min 64 (shape.count - 64 * k) → 64 * k < labels im → n ≡ min (count - i) here.left → Run im shape (64 * k + i) n
run_of {shape = shape} k i fitted shaped stand more all some is =
    record {
      fitted = fitted;
      shaped = shaped;
      some = omega (arith, is, more, stand.more, slot-below shape shaped.roomy (64 * k + i));
      near = omega (arith, is, stand.more);
      among = omega (arith, is, count-is shaped, some, all, more);
    }

pub overflow_mul-first : goal.overflow_mul-first
overflow_mul-first c =
    omega (arith, count-is c.requires.counted.1.0, c.requires.counted.1.0.few, c.requires.k_bound.0)

pub overflow_sub-shape : goal.overflow_sub-shape
overflow_sub-shape c =
    omega (arith, count-is c.requires.counted.1.0, c.requires.k_bound.0)

pub loop-i-init : goal.loop-i-init
unfolding collect
loop-i-init c =
    (omega arith, (rw add-zero c.requires.k_bound.1, refl))

pub overflow_mul-end : goal.overflow_mul-end
overflow_mul-end c =
    let run_at = run_of c.args.k c.loop-i.i c.requires.counted.0.fitted c.requires.counted.1.0 c.loop-i.invariant.1.0 c.loop-i-test.true
    c.lower-count.ensures c.requires.k_bound.0 c.lower-n.ensures in
    let run_end : let a = c.args in c.loop-i.here.at + a.shape.size * c.lower-n.result ≤ length a.image.now =
    omega (arith, run_fits run_at, c.loop-i.invariant.1.0.begins) in
    omega (arith, run_end)

pub overflow_add-end : goal.overflow_add-end
overflow_add-end c =
    let run_at = run_of c.args.k c.loop-i.i c.requires.counted.0.fitted c.requires.counted.1.0 c.loop-i.invariant.1.0 c.loop-i-test.true
    c.lower-count.ensures c.requires.k_bound.0 c.lower-n.ensures in
    let run_end : let a = c.args in c.loop-i.here.at + a.shape.size * c.lower-n.result ≤ length a.image.now =
    omega (arith, run_fits run_at, c.loop-i.invariant.1.0.begins) in
    omega (arith, run_end)

pub slice_bounds-run_bits-end : goal.slice_bounds-run_bits-end
slice_bounds-run_bits-end c =
    let run_at = run_of c.args.k c.loop-i.i c.requires.counted.0.fitted c.requires.counted.1.0 c.loop-i.invariant.1.0 c.loop-i-test.true
    c.lower-count.ensures c.requires.k_bound.0 c.lower-n.ensures in
    let run_end : let a = c.args in c.loop-i.here.at + a.shape.size * c.lower-n.result ≤ length a.image.now =
    omega (arith, run_fits run_at, c.loop-i.invariant.1.0.begins) in
    omega (arith, run_end)

pub run_bits-run-requires : goal.run_bits-run-requires
run_bits-run-requires c =
    let run_at = run_of c.args.k c.loop-i.i c.requires.counted.0.fitted c.requires.counted.1.0 c.loop-i.invariant.1.0 c.loop-i-test.true
    c.lower-count.ensures c.requires.k_bound.0 c.lower-n.ensures in
    let run-within : c.loop-i.i + c.lower-n.result ≤ 64 = omega (arith, c.lower-n.ensures, c.lower-count.ensures, c.loop-i-test.true) in
    let run = run_at in
    let l = c.loop-i in
    let begins = l.invariant.1.0.begins in
    let count = run-count run l.here.at begins in (
      size_is run ∙ ap (λ (e : Edition). record_size e Label) (sym c.requires.counted.1.1),
      (run-whole run l.here.at begins, omega (arith, count, run-within)),
    )

pub overflow_shl-shifted : goal.overflow_shl-shifted
overflow_shl-shifted c =
    let run_at = run_of c.args.k c.loop-i.i c.requires.counted.0.fitted c.requires.counted.1.0 c.loop-i.invariant.1.0 c.loop-i-test.true
    c.lower-count.ensures c.requires.k_bound.0 c.lower-n.ensures in
    let run-within : c.loop-i.i + c.lower-n.result ≤ 64 = omega (arith, c.lower-n.ensures, c.lower-count.ensures, c.loop-i-test.true) in
    omega (arith, run-within, run_at.some)

pub overflow_add-first : goal.overflow_add-first
overflow_add-first c =
    let run_at = run_of c.args.k c.loop-i.i c.requires.counted.0.fitted c.requires.counted.1.0 c.loop-i.invariant.1.0 c.loop-i-test.true
    c.lower-count.ensures c.requires.k_bound.0 c.lower-n.ensures in
    omega (arith, run_at.among, run_at.shaped.few, count-is run_at.shaped)

pub forward-here-requires : goal.forward-here-requires
forward-here-requires c =
    let run_at = run_of c.args.k c.loop-i.i c.requires.counted.0.fitted c.requires.counted.1.0 c.loop-i.invariant.1.0 c.loop-i-test.true
    c.lower-count.ensures c.requires.k_bound.0 c.lower-n.ensures in
    let run = run_at in
    let l = c.loop-i in
    let a = c.args in
    let inside : 64 * a.k + l.i ≤ labels a.image.now = omega (arith, run.among) in
    let low : record_offset a.shape (64 * a.k + l.i) < 2 ^ 63 =
    rw run.shaped.is (omega (arith, record-upto _ run.fitted Label (64 * a.k + l.i) inside)) in
    record { roomy = (run.shaped.roomy, (l.invariant.1.0, low)); n_le_left = omega (arith, c.lower-n.ensures) }

pub overflow_add-i : goal.overflow_add-i
overflow_add-i c =
    let run-within : c.loop-i.i + c.lower-n.result ≤ 64 = omega (arith, c.lower-n.ensures, c.lower-count.ensures, c.loop-i-test.true) in
    omega (arith, run-within)

pub loop-i-smaller : goal.loop-i-smaller
loop-i-smaller c =
    let run_at = run_of c.args.k c.loop-i.i c.requires.counted.0.fitted c.requires.counted.1.0 c.loop-i.invariant.1.0 c.loop-i-test.true
    c.lower-count.ensures c.requires.k_bound.0 c.lower-n.ensures in
    omega (arith, run_at.some, c.loop-i-test.true)

pub loop-i-preserved : goal.loop-i-preserved
loop-i-preserved c =
    let run_at = run_of c.args.k c.loop-i.i c.requires.counted.0.fitted c.requires.counted.1.0 c.loop-i.invariant.1.0 c.loop-i-test.true
    c.lower-count.ensures c.requires.k_bound.0 c.lower-n.ensures in
    let run-within : c.loop-i.i + c.lower-n.result ≤ 64 = omega (arith, c.lower-n.ensures, c.lower-count.ensures, c.loop-i-test.true) in
    let run = run_at in
    let l = c.loop-i in
    let a = c.args in
    let im = a.image.now in
    let n = c.lower-n.result in
    let f = told im (rights_of a.view) a.k in
    let read : ℕ → Bool = λ j. reads_label (rights_of a.view) (record_label a.edition
    (part (take (l.here.at + a.shape.size * n - l.here.at) (drop l.here.at im)) (a.shape.size * j) a.shape.size)) in
    let same : (j : ℕ) → j < n → read j ≡ f (l.i + j) = λ j h.
    let place : 64 * a.k + l.i + j ≡ 64 * a.k + (l.i + j) = omega arith in
    run-reads run l.here.at l.invariant.1.0.begins a.edition c.requires.counted.1.1 (rights_of a.view) j h
    ∙ ap (reads_record im (rights_of a.view)) place in
    let next : 64 * a.k + l.i + n ≡ 64 * a.k + (l.i + n) = omega arith in (
      omega (arith, c.lower-n.ensures, c.loop-i-test.true),
      (
        subst (λ (m : ℕ). Standing a.shape m c.forward-here.result) next c.forward-here.ensures,
        c.union-bits.ensures
            ∙ run-joined f l.i read n _ _ _ l.invariant.1.1 c.run_bits-run.ensures (run-count run l.here.at l.invariant.1.0.begins) same
            run-within,
      ),
    )

pub returns : goal.returns
returns c =
    let l = c.loop-i in
    let a = c.args in
    let n = labels a.image.now in
    let end : l.i ≡ min 64 (n - 64 * a.k) = omega (arith, count-is c.requires.counted.1.0, l.invariant.0, c.lower-count.ensures, c.loop-i-test.false) in
    let small : l.i ≤ 64 = omega arith in
    let all : l.i < 64 → n ≤ 64 * a.k + l.i = λ h. omega arith in
    let next : 64 * a.k + l.i ≡ min (64 * a.k + 64) n = omega (arith, c.requires.k_bound.0) in (
      l.invariant.1.1 ∙ word-upto a.image.now (rights_of a.view) a.k l.i small all,
      subst (λ (m : ℕ). Standing a.shape m l.here) next l.invariant.1.0,
    )
