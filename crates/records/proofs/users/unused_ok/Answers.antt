use Rattle.std.proofs.Common.{ℕ, Bool, ◌&&◌, eqb, drop, sym, ap, ◌∙◌, ap₂}
use Rattle.fields.specs.Bytes.{part, all_zero}
use Rattle.sets.specs.Sets.{union, empty}
use Rattle.header.specs.declared.edition.Edition.{Edition}
use Rattle.records.specs.Fields.{user_end}
use Rattle.records.proofs.SetWords.{user-unused, user-unused-two}
use Rattle.records.proofs.users.unused_ok.Goals as goal

pub returns-in-One : goal.returns-in-One
returns-in-One c =
    let rec = c.args.rec.now in
    let is = c.in-One.is in
    let words = c.union-one.ensures ∙ ap₂ union c.number8.ensures c.number8-in-One.ensures in
    let rest = c.union-rest.ensures ∙ ap₂ union words c.number8-in-One-2.ensures in
    ap₂ (λ (n : ℕ) (t : Bool). eqb n 0 && t) c.number4.ensures (c.is_empty.ensures ∙ ap empty rest)
    ∙ user-unused rec (rw is at c.requires.0)
    ∙ ap (λ (e : Edition). all_zero (part rec 36 4) && all_zero (drop (user_end e) rec)) (sym is)

pub returns-in-Two : goal.returns-in-Two
returns-in-Two c =
    let rec = c.args.rec.now in
    let is = c.in-Two.is in
    ap (λ (n : ℕ). eqb n 0) c.number4-in-Two.ensures ∙ user-unused-two rec (rw is at c.requires.0)
    ∙ ap (λ (e : Edition). all_zero (part rec 36 4) && all_zero (drop (user_end e) rec)) (sym is)
