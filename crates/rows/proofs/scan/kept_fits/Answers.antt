use mathlib.Core.Path.{sym}
use native.Mathlib.Nat.{le_trans}
use native.Mathlib.Omega.{arith}
use borrow.Author.Tests.{le-leb}
use Rattle.rows.proofs.Adding.{kept-bytes-short}
use Rattle.rows.proofs.scan.kept_fits.Goals as goal

pub returns-then-run-room : goal.returns-then-run-room
returns-then-run-room g c =
    let short = kept-bytes-short (g.T.RowTest.passes c.args.test.now) _ _ c.requires in
    sym (le-leb _ _ (le_trans short (omega arith)))

pub returns : goal.returns
returns g c = rw c.kept_length.ensures
