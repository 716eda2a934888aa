use Rattle.std.proofs.Common.{rules}
use Rattle.labels.specs.GroupTest.{group_test}
use Rattle.labels.proofs.group_test.passes.Goals as goal

pub returns-in-Tree : goal.returns-in-Tree
unfolding group_test
returns-in-Tree c = search rules

pub returns-in-Release : goal.returns-in-Release
unfolding group_test
returns-in-Release c = search rules
