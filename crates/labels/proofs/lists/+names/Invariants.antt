use Prim.Native.Nat.{◌*◌, ◌+◌, ◌-◌}
use lib.ListN.{length}
use Rattle.labels.proofs.lists.+names.Given as goal

abbrev pub decreases-after_name : goal.decreases-after_name
decreases-after_name l = 2 * (length l.text.now - l.at)

abbrev pub decreases-read_names : goal.decreases-read_names
decreases-read_names l = 2 * (length l.text.now - l.at) + 1
