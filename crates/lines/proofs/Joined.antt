-- A line, written as a name, a tag and an ending one after the other, and how long it is at most. Assumes nothing.
use Prim.Native.Nat.{ℕ, ◌+◌, ◌^◌, ◌≤◌, ◌<◌}
use mathlib.Core.Path.{◌≡◌, refl, ap, ap₂, subst}
use mathlib.Core.List.{List, ◌∷◌, ◌++◌}
use native.Mathlib.Nat.{le_trans, le_of_eq, min-le_left}
use native.Mathlib.Omega.{arith}
use lib.Dec.{lit≤}
use lib.ListN.{length, drop, length-append, length-take}
use Rattle.buffers.specs.Pasting.{Written}
use Rattle.buffers.proofs.Left.{written-long, written_then}
use Rattle.fields.specs.Bytes.{byte_at}
use Rattle.fields.specs.Names.{name_in}
use Rattle.header.specs.Layout.{users, labels, user_record, label_record}
use Rattle.records.specs.Fields.{tag_of, user_name, user_name_field}
use Rattle.image.specs.Check.{IsAccepted}
use Rattle.image.proofs.Policy.{user-kept, label_kept}
use Rattle.labels.specs.Label.{Marks, label_at}
use Rattle.access.specs.Rights.{Rights}
use Rattle.sessions.specs.Session.{session_rights}
use Rattle.sessions.specs.Opening.{default_session}
use Rattle.lines.specs.Lines.{space, decimal, ending, line_at}
use Rattle.lines.proofs.Digits.{count-short, decimal-length}

-- ---- a line
-- a number below 10 ^ k has at most k digits
pub decimal-short : (n k : ℕ) → 1 ≤ k → n < 10 ^ k → length (decimal n) ≤ k
decimal-short n k h l = le_trans (le_of_eq (decimal-length n)) (count-short n k h l)

pub ending-length : (rights : Rights) (label : Marks) → length (ending rights label) ≡ 4
unfolding ending
ending-length rights label = refl

module _ (im : List ℕ) (acc : IsAccepted im) (u k : ℕ) (here : u < users im) (there : k < labels im) where
  abbrev name : List ℕ
  name = user_name (user_record im u)

  abbrev tag : ℕ
  tag = tag_of (label_record im k)

  abbrev rights : Rights
  rights = session_rights im (default_session im u)

  pub name-short : length (user_name (user_record im u)) ≤ 30
  unfolding name_in
  name-short =
      let field = user_name_field (user_record im u) in
      let n = byte_at field 0 in
      let l : n ≤ 30 = (user-kept im acc u here).named.longest in
      le_trans (le_of_eq (length-take n (drop 1 field))) (le_trans (min-le_left n (length (drop 1 field))) l)

  pub tag-short : length (decimal (tag_of (label_record im k))) ≤ 8
  tag-short = decimal-short tag 8 (lit≤ tt) (let l = (label_kept im acc k there).tag_limit in omega arith)

  pub line-short : length (line_at im u k) ≤ 43
  unfolding line_at
  line-short =
      let a = length-append (name ++ (space ∷ decimal tag)) (ending rights (label_at im k)) in
      let b = length-append name (space ∷ decimal tag) in
      let e = ending-length rights (label_at im k) in
      omega (arith, name-short, tag-short)

  -- the name, the tag and the ending, one after the other
  module _ (b : List ℕ) (e : ℕ) (room : e + 43 ≤ length b) {n : List ℕ} (named : n ≡ name) where
    pub room-name : e + length n ≤ length b
    room-name = let l = ap length named in omega (arith, name-short)

    module _ {mid : List ℕ} {p : ℕ} (v : Written b e n mid p) where
      pub room-tag : p + 1 + length (decimal tag) ≤ length mid
      room-tag =
          let l = ap length named in
          let long = written-long room-name v in
          omega (arith, name-short, tag-short, v.stop)

      module _ {next : List ℕ} {q : ℕ} (w : Written mid p (space ∷ decimal tag) next q) where
        two : Written b e (n ++ (space ∷ decimal tag)) next q
        two = written_then room-name v w

        room-two : e + length (n ++ (space ∷ decimal tag)) ≤ length b
        room-two =
            let l = ap length named in
            omega (arith, name-short, tag-short, length-append n (space ∷ decimal tag))

        pub room-ending : q + 4 ≤ length next
        room-ending =
            let l = ap length named in
            let long = written-long room-two two in
            omega (arith, name-short, tag-short, length-append n (space ∷ decimal tag), two.stop)

        pub written-line : {after : List ℕ} {r : ℕ} {g : Rights} {m : Marks} → g ≡ rights → m ≡ label_at im k
            → Written next q (ending g m) after r → Written b e (line_at im u k) after r
        unfolding line_at
        written-line {after} {r} {g} {m} ge me x =
            subst (λ (t : List ℕ). Written b e t after r)
            (ap₂ (λ (s t : List ℕ). s ++ (space ∷ decimal tag) ++ t) named (ap₂ ending ge me))
            (written_then room-two two x)
