use Prim.Native.Nat.{ℕ, ◌^◌, ◌≤◌, ◌<◌, zero-le}
use mathlib.Core.Path.{◌≡◌, ap}
use mathlib.Core.List.{List}
use native.Mathlib.Nat.{sub-zero}
use native.Mathlib.Omega.{arith}
use lib.ListN.{length}
use Rattle.fields.proofs.Scan.{loop-bad, loop-good, loop-end}
use Rattle.header.specs.declared.layout.Kind.TheVariants.{User}
use Rattle.header.specs.declared.layout.Shape.{Shape}
use Rattle.header.specs.Layout.{users, Shaped, record_offset}
use Rattle.header.specs.Limits.{Counted}
use Rattle.header.proofs.Inside.{header-inside, record-upto}
use Rattle.image.specs.Lookup.{user_of_name}
use Rattle.image.proofs.given.user_of_name.Goals as goal

-- the walk over users stays in the image
walk_inside : (im : List ℕ) → Counted im → (shape : Shape) → Shaped im User shape → length im < 2 ^ 63 → (u : ℕ) → u ≤ users im → record_offset shape u < 2 ^ 63
walk_inside im n shape shaped small u h = rw shaped.is (omega (arith, record-upto im n.fitted User u h))

pub shape_of-shape-requires : goal.shape_of-shape-requires
shape_of-shape-requires c = header-inside _ c.requires.fitted

pub record_at-here-requires : goal.record_at-here-requires
record_at-here-requires c =
    let shaped = c.shape_of-shape.ensures in
    (shaped.roomy, walk_inside _ c.requires _ shaped (omega arith) 0 zero-le)

pub loop-u-init : goal.loop-u-init
unfolding user_of_name
loop-u-init c =
    (ap (λ (s : Shape). s.count) c.shape_of-shape.ensures.is, (c.record_at-here.ensures, rw sub-zero))

pub placed_part-rec-requires : goal.placed_part-rec-requires
placed_part-rec-requires c =
    (c.requires.fitted, (c.shape_of-shape.ensures, (omega (arith, c.loop-u.invariant.0), c.loop-u.invariant.1.0.begins)))

pub is_user-requires : goal.is_user-requires
is_user-requires c = c.placed_part-rec.ensures.1.1

pub returns-then-is_user : goal.returns-then-is_user
returns-then-is_user c =
    let less : c.loop-u.u < users c.args.image.now = omega (arith, c.loop-u.invariant.0) in
    loop-bad _ _ _ _ less c.loop-u.invariant.1.1 (rw (← c.placed_part-rec.ensures.0, ← c.is_user.ensures, c.if-is_user.true))

pub next_record-here-requires : goal.next_record-here-requires
next_record-here-requires c =
    let shaped = c.shape_of-shape.ensures in
    (shaped.roomy, (c.loop-u.invariant.1.0, walk_inside _ c.requires _ shaped (omega arith) _ (omega (arith, c.loop-u.invariant.0))))

pub loop-u-preserved : goal.loop-u-preserved
loop-u-preserved c =
    let less : c.loop-u.u < users c.args.image.now = omega (arith, c.loop-u.invariant.0) in (
      c.loop-u.invariant.0,
      (
        c.next_record-here.ensures,
        loop-good _ _ _ _ less c.loop-u.invariant.1.1 (rw (← c.placed_part-rec.ensures.0, ← c.is_user.ensures, c.if-is_user.false)),
      ),
    )

pub returns : goal.returns
returns c =
    let done : c.loop-u.u ≡ c.shape_of-shape.result.count = omega arith in
    rw (← done) (loop-end _ _ _ _ (omega (arith, c.loop-u.invariant.0)) c.loop-u.invariant.1.1)
