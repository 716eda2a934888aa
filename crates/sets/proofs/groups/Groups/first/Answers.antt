-- `sets::groups::Groups::first` meets its contract: empty words before the first place are passed over. Assumes nothing.
use Prim.Native.Nat.{◌+◌}
use mathlib.Core.Path.{refl}
use mathlib.Core.List.{[], ◌∷◌}
use native.Mathlib.Omega.{arith}
use Rattle.sets.specs.Groups.{places_of}
use Rattle.sets.proofs.EachWord.{lowest-found, lowest-rest, lowest-last}
use borrow.Author.Rules.{rules}
use Rattle.sets.proofs.groups.Groups.first.Goals as goal

pub returns-then-self-ne0 : goal.returns-then-self-ne0
unfolding places_of
returns-then-self-ne0 c = lowest-found _ _ _ (search rules) c.if-self-ne0.true c.first.ensures

pub returns-then-self-ne0-2 : goal.returns-then-self-ne0-2
unfolding places_of
returns-then-self-ne0-2 c =
    let g = c.args.self in
    let q = c.first-then-self-ne0-2.result in
    lowest-rest g.w0 (g.w1 ∷ g.w2 ∷ g.w3 ∷ []) q (64 + q) c.if-self-ne0.false refl
    (lowest-found g.w1 (g.w2 ∷ g.w3 ∷ []) q (search rules) c.if-self-ne0-2.true c.first-then-self-ne0-2.ensures)

pub returns-then-self-ne0-3 : goal.returns-then-self-ne0-3
unfolding places_of
returns-then-self-ne0-3 c =
    let g = c.args.self in
    let q = c.first-then-self-ne0-3.result in
    lowest-rest g.w0 (g.w1 ∷ g.w2 ∷ g.w3 ∷ []) (64 + q) (128 + q) c.if-self-ne0.false (omega arith)
    (lowest-rest g.w1 (g.w2 ∷ g.w3 ∷ []) q (64 + q) c.if-self-ne0-2.false refl
    (lowest-found g.w2 (g.w3 ∷ []) q (search rules) c.if-self-ne0-3.true c.first-then-self-ne0-3.ensures))

pub returns : goal.returns
unfolding places_of
returns c =
    let g = c.args.self in
    let q = c.first-2.result in
    lowest-rest g.w0 (g.w1 ∷ g.w2 ∷ g.w3 ∷ []) (128 + q) (192 + q) c.if-self-ne0.false (omega arith)
    (lowest-rest g.w1 (g.w2 ∷ g.w3 ∷ []) (64 + q) (128 + q) c.if-self-ne0-2.false (omega arith)
    (lowest-rest g.w2 (g.w3 ∷ []) q (64 + q) c.if-self-ne0-3.false refl (lowest-last g.w3 q c.first-2.ensures)))
