use Prim.Native.Nat.{ℕ, ◌<◌}
use mathlib.Core.Path.{◌≡◌, refl, sym, ap, ◌∙◌}
use mathlib.Core.List.{List}
use native.Mathlib.Omega.{arith}
use Rattle.sets.specs.Sets.{intersection}
use Rattle.sets.specs.Words.{joined}
use Rattle.sets.specs.Groups.{places_of}
use Rattle.sets.proofs.Places.{places-below}
use Rattle.sets.proofs.EachWord.{four_are}
use Rattle.hierarchy.specs.Forest.{below_in, table_room, forest_by, order_at, OrderedBy}
use Rattle.hierarchy.proofs.Under.{below-groups}
use Rattle.hierarchy.proofs.InOrder.{descend-start, descend-end, four-words, words-put, words-pass}
use Rattle.hierarchy.proofs.table.below_in_words.Goals as goal
use Rattle.hierarchy.proofs.table.below_in_words.Goals.{then-p-count+then-has, then-p-count+else-has, else-p-count}

-- a group of the order is one that there is room for
group : (count : ℕ) (table : List ℕ) (i g : ℕ) → OrderedBy count table → i < count → g ≡ order_at table i → g < table_room
group count table i g all h is = let l = all.2.group i h in let room = all.0 in omega arith

pub loop-i-init : goal.loop-i-init
loop-i-init c =
    let s = places_of c.args.s in
    let words =
    four-words _ _ _ _ _ (places-below c.intersection-groups.result) c.word.ensures c.word-2.ensures
    c.word-3.ensures c.word-4.ensures in
    (refl, descend-start _ _ s _ (words ∙ c.intersection-groups.ensures ∙ ap (intersection s) c.all_below.ensures))

pub loop-i-preserved : goal.loop-i-preserved
loop-i-preserved c =
    let four = c.loop-i.invariant.0 in
    let so = c.loop-i.invariant.1 in
    let left = c.loop-i-test.true in
    let is = c.ordered-g.ensures in
    let up = c.stored-p.ensures in
    elim c.if-p-count.branch [
      | then-p-count+then-has w ↦
          words-put _ _ c.requires _ _ _ _ _ four so left is up _ _ w.if-p-count.true (sym w.has.ensures ∙ w.if-has.true) w.with.ensures w.words-is
      | then-p-count+else-has w ↦
          words-pass _ _ c.requires _ _ _ _ _ four so left is up _ (λ h. sym w.has.ensures ∙ w.if-has.false) w.words-is
      | else-p-count w ↦ words-pass _ _ c.requires _ _ _ _ _ four so left is up _ (λ h. absurd (omega arith)) w.words-is
    ]

pub returns : goal.returns
returns c =
    let f = forest_by c.args.count c.args.table.now in
    let s = places_of c.args.s in
    let words =
    four-words _ _ _ _ _ (places-below c.intersection-groups.result) c.word.ensures c.word-2.ensures
    c.word-3.ensures c.word-4.ensures in
    c.of_words.ensures ∙ ap joined (four_are c.loop-i.words c.loop-i.invariant.0)
    ∙ descend-end _ _ c.requires _ _ _ c.loop-i.invariant.1 c.loop-i-test.false
    ∙ ap (below_in f) (words ∙ c.intersection-groups.ensures ∙ ap (intersection s) c.all_below.ensures) ∙ below-groups f s
