-- The labels of an accepted session fit their bytes: they name only what exists, and an image has at most 64 compartments and 256 groups.
-- Assumes nothing.
use Rattle.std.proofs.Common.{Ok}
use Prim.Native.Nat.{ℕ}
use mathlib.Core.Path.{◌≡◌}
use mathlib.Core.Bool.{true}
use mathlib.Core.List.{List}
use lib.Pow.{pow_mono}
use native.Mathlib.Nat.{lt_of_lt_of_le}
use native.Mathlib.Omega.{arith}
use Rattle.header.specs.Layout.{compartments, groups}
use Rattle.header.proofs.Editions.{counted-groups, counted-users}
use Rattle.image.specs.Check.{IsAccepted}
use Rattle.image.proofs.Accepted.{accepted-counted}
use Rattle.labels.specs.Label.{Marks, label_exists}
use Rattle.labels.proofs.Existing.{exists-means}
use Rattle.access.specs.NewLabels.{session_rule}
use Rattle.sessions.specs.Session.{SessionMarks, lent_answer}
use Rattle.sessions.proofs.Accepting.{lent-accepted, lent-user}
use Rattle.sessions.proofs.Existing.{session-labels-exist}
use Rattle.encoding.specs.Labels.{LabelFits}
use Rattle.encoding.specs.Sessions.{SessionPartsFit}

label-fits : (im : List ℕ) → IsAccepted im → (m : Marks) → label_exists im m ≡ true → LabelFits m
label-fits im acc m e =
    let k = exists-means im m e in
    let n = accepted-counted im acc in
    let c = pow_mono n.compartments_limit in
    record {
      level = omega (arith, k.level, n.levels_limit);
      compartments = omega (arith, k.compartments, c);
      groups = lt_of_lt_of_le k.groups (pow_mono (counted-groups im n));
    }

pub lent-widths : (im : List ℕ) (s : SessionMarks) → lent_answer im s ≡ (Ok tt) → SessionPartsFit s
lent-widths im s e =
    let acc = lent-accepted im s e in
    let x = session-labels-exist im s e in
    record {
      user = omega (arith, lent-user im s e, counted-users im (accepted-counted im acc));
      label = label-fits im acc s.label x.0;
      row = label-fits im acc s.row x.1;
    }

pub rule-widths : (im : List ℕ) → IsAccepted im → (s : SessionMarks) → session_rule im s.user s.label s.row ≡ true → SessionPartsFit s
unfolding lent_answer
rule-widths im acc s e = lent-widths im s (rw (acc, e))
