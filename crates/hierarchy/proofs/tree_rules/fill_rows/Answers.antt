use borrow.Author.Rules.{rules}
use Rattle.hierarchy.proofs.tree_rules.fill_rows.Goals as goal

pub returns-in-One : goal.returns-in-One
returns-in-One c = c.fill_by.ensures _ _ (λ u small sets told. search rules)

pub returns-in-Two : goal.returns-in-Two
returns-in-Two c = c.fill_by-in-Two.ensures _ _ (λ u small sets told. search rules)
