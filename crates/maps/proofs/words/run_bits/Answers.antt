use Prim.Native.Nat.{ℕ, ◌≤◌, ◌<◌}
use mathlib.Core.Path.{◌≡◌, refl, sym, ap, ◌∙◌}
use mathlib.Core.List.{List}
use native.Mathlib.Omega.{arith}
use Rattle.sets.specs.Sets.{one, union, collect}
use Rattle.sets.proofs.Has.{collect-put, collect-pass}
use Rattle.header.specs.declared.layout.Kind.TheVariants.{Label}
use Rattle.header.proofs.Editions.{size-least}
use Rattle.records.proofs.Rooms.{label-room}
use Rattle.labels.specs.Label.{record_label}
use Rattle.access.specs.Rights.{rights_of}
use Rattle.access.specs.Verdicts.{reads_label}
use Rattle.maps.proofs.Chunks.{ahead-start, row-is, row-among, ahead-next, ahead-end}
use Rattle.maps.proofs.words.run_bits.Invariants.{told}
use Rattle.maps.proofs.words.run_bits.Goals as goal

pub chunks_exact-requires : goal.chunks_exact-requires
chunks_exact-requires c =
    let least : 24 ≤ c.args.size = rw c.requires.0 (size-least c.args.edition Label) in
    omega arith

pub loop-i-init : goal.loop-i-init
unfolding collect
loop-i-init c =
    let least : 24 ≤ c.args.size = rw c.requires.0 (size-least c.args.edition Label) in
    let e = c.enumerate-i-items.ensures in
    rw (c.into_iter-i-iterator.ensures.into_iter_gives, e.source, e.count)
    (refl, ahead-start c.args.size c.args.run.now (omega arith) _ _ c.chunks_exact.ensures.size c.chunks_exact.ensures.rest)

pub reads_record-requires : goal.reads_record-requires
reads_record-requires c =
    let s = c.in-Some.ensures.steps in
    omega (arith, s.0.1.1, c.loop-i.invariant.1.same, c.requires.0, label-room c.args.edition)

pub with-set-requires : goal.with-set-requires
with-set-requires c =
    let least : 24 ≤ c.args.size = rw c.requires.0 (size-least c.args.edition Label) in
    let s = c.in-Some.ensures.steps in
    omega (arith, s.1, row-among c.args.size c.args.run.now (omega arith) _ _ _ c.loop-i.invariant.1 _ _ s.0.1.0 s.0.1.1 c.requires.1.0, c.requires.1.1)

pub loop-i-preserved-then-reads_record : goal.loop-i-preserved-then-reads_record
loop-i-preserved-then-reads_record c =
    let least : 24 ≤ c.args.size = rw c.requires.0 (size-least c.args.edition Label) in
    let some : 0 < c.args.size = omega arith in
    let a = c.args in
    let s = c.in-Some.ensures.steps in
    let inv = c.loop-i.invariant in
    let n = c.loop-i.i-iterator.count in
    let f = told (rights_of a.view) a.edition a.size a.run.now in
    let is = ap (λ (rec : List ℕ). reads_label (rights_of a.view) (record_label a.edition rec))
    (row-is a.size a.run.now some _ _ _ inv.1 _ _ s.0.1.0 s.0.1.1) in
    let asked : f n ≡ _ = sym (c.reads_record.ensures ∙ is) in
    let bits = c.with-set.ensures ∙ ap (λ (i : ℕ). union c.loop-i.set (one i)) s.1
    ∙ ap (λ (x : ℕ). union x (one n)) inv.0 ∙ sym (collect-put f n (asked ∙ c.if-reads_record.true)) in
    (bits ∙ ap (collect f) (sym s.2), ahead-next a.size a.run.now some _ _ _ inv.1 _ _ s.0.1.0 s.0.1.1 _ _ s.0.0 s.2)

pub loop-i-preserved : goal.loop-i-preserved
loop-i-preserved c =
    let least : 24 ≤ c.args.size = rw c.requires.0 (size-least c.args.edition Label) in
    let some : 0 < c.args.size = omega arith in
    let a = c.args in
    let s = c.in-Some.ensures.steps in
    let inv = c.loop-i.invariant in
    let n = c.loop-i.i-iterator.count in
    let f = told (rights_of a.view) a.edition a.size a.run.now in
    let is = ap (λ (rec : List ℕ). reads_label (rights_of a.view) (record_label a.edition rec))
    (row-is a.size a.run.now some _ _ _ inv.1 _ _ s.0.1.0 s.0.1.1) in
    let asked : f n ≡ _ = sym (c.reads_record.ensures ∙ is) in (
      inv.0 ∙ sym (collect-pass f n (asked ∙ c.if-reads_record.false)) ∙ ap (collect f) (sym s.2),
      ahead-next a.size a.run.now some _ _ _ inv.1 _ _ s.0.1.0 s.0.1.1 _ _ s.0.0 s.2,
    )

pub returns : goal.returns
returns c =
    let least : 24 ≤ c.args.size = rw c.requires.0 (size-least c.args.edition Label) in
    let a = c.args in
    let inv = c.loop-i.invariant in
    let end = ahead-end a.size a.run.now (omega arith) _ _ _ inv.1 c.requires.1.0 c.in-None.ensures.steps.0.1.0 in
    inv.0 ∙ ap (collect (told (rights_of a.view) a.edition a.size a.run.now)) end
