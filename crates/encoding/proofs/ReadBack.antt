-- A label and a session in bytes stand where the documents say, and read back as themselves. Assumes nothing.
use Prim.Native.Nat.{ℕ, zero, suc, ◌+◌, ◌*◌, ◌/◌, ◌%◌, ◌^◌, ◌<◌}
use mathlib.Core.Path.{◌≡◌, refl, sym, ap, ap₂, ◌∙◌}
use mathlib.Core.Bool.{true}
use mathlib.Core.List.{List, ◌∷◌, map}
use native.Mathlib.Nat.{add_comm, mul_comm, div-div-eq-div-mul, mod-lt, mod-eq_of_lt}
use native.Mathlib.Omega.{arith}
use borrow.Author.Tests.{eq-eqb}
use lib.Arith.{mod-mul}
use lib.ListN.{length}
use lib.Pow.{pow_pos}
use Rattle.fields.specs.Bytes.{byte_at, part, number2, number4, number8}
use Rattle.sets.specs.Groups.{width}
use Rattle.sets.specs.Words.{word_of, joined}
use Rattle.sets.proofs.Words.{joined-whole}
use Rattle.sets.proofs.EachWord.{each, each-word_of}
use Rattle.header.specs.declared.edition.Edition.TheVariants.{Two}
use Rattle.records.specs.Fields.{words_at, groups_at}
use Rattle.labels.specs.Label.{Marks}
use Rattle.sessions.specs.Session.{SessionMarks}
use Rattle.encoding.specs.Labels.{bytes8, set_bytes, label_bytes, label_in, LabelFits}
use Rattle.encoding.specs.Sessions.{session_bytes, session_in, one_user, SessionPartsFit, Holds}

-- ---- a word in eight bytes
-- the low digits of x to the bases c and then m
low-digits : (x c m : ℕ) → 0 < c → 0 < m → x % c + c * (x / c % m) ≡ x % (m * c)
low-digits x c m p q = sym (mod-mul x q p ∙ add_comm _ _ ∙ ap (λ (n : ℕ). x % c + n) (mul_comm _ _))

two_bytes : (x : ℕ) → x % 256 + 256 * (x / 256 % 256) ≡ x % 65536
two_bytes x = low-digits x 256 256 (omega arith) (omega arith)

abbrev four_bytes : ℕ → ℕ → ℕ → ℕ → ℕ
four_bytes a b c d = (a % 256 + 256 * (b % 256)) + 65536 * (c % 256 + 256 * (d % 256))

four_bytes_lem : (x b c d : ℕ) → b ≡ x / 256 → c ≡ x / 65536 → d ≡ x / 65536 / 256 → four_bytes x b c d ≡ x % 4294967296
four_bytes_lem x b c d p q r =
    rw (p, q, r) (ap₂ (λ (l h : ℕ). l + 65536 * h) (two_bytes x) (two_bytes (x / 65536)))
    ∙ low-digits x 65536 65536 (omega arith) (omega arith)

-- `number8` of the bytes of a word
pub word_back : (w : ℕ) → w < 2 ^ 64 → number8 (bytes8 w) 0 ≡ w
unfolding number8 number4 number2
word_back w h =
    ap₂ (λ (l h : ℕ). l + 4294967296 * h)
    (four_bytes_lem w _ _ _ refl refl (sym (div-div-eq-div-mul w 65536 256)))
    (four_bytes_lem high _ _ _ (sym (div-div-eq-div-mul w 4294967296 256)) (sym (div-div-eq-div-mul w 4294967296 65536))
    (sym (div-div-eq-div-mul high 65536 256 ∙ div-div-eq-div-mul w 4294967296 16777216)))
    ∙ low-digits w 4294967296 4294967296 (omega arith) (omega arith) ∙ mod-eq_of_lt h
  where
    high : ℕ
    high = w / 4294967296

-- ---- a label in 48 bytes
pub label-length : (m : Marks) → length (label_bytes m) ≡ 48
unfolding label_bytes set_bytes
label-length m = refl

-- where its parts stand
level-place : (m : Marks) → byte_at (label_bytes m) 4 ≡ m.level
unfolding label_bytes set_bytes
level-place m = refl

compartments-place : (m : Marks) → number8 (label_bytes m) 8 ≡ number8 (bytes8 m.compartments) 0
unfolding label_bytes set_bytes number8 number4 number2
compartments-place m = refl

groups-place : (m : Marks) → words_at 4 (label_bytes m) 16 ≡ map (λ w. number8 (bytes8 w) 0) (each (word_of m.groups) 4)
unfolding label_bytes set_bytes number8 number4 number2
groups-place m = refl

-- the words of a set, each through its bytes
words_back : (s n : ℕ) → map (λ w. number8 (bytes8 w) 0) (each (word_of s) n) ≡ each (word_of s) n
words_back s n = at (word_of s) (λ k. mod-lt (s / 2 ^ (64 * k)) (pow_pos 64)) n
  where
    at : (f : ℕ → ℕ) → ((k : ℕ) → f k < 2 ^ 64) → (n : ℕ) → map (λ w. number8 (bytes8 w) 0) (each f n) ≡ each f n
    at f h zero = refl
    at f h (suc n) = ap₂ (λ (w : ℕ) (ws : List ℕ). w ∷ ws) (word_back (f 0) (h 0)) (at (λ k. f (suc k)) (λ k. h (suc k)) n)

groups-back : (m : Marks) → m.groups < 2 ^ width → groups_at Two (label_bytes m) 16 ≡ m.groups
unfolding groups_at
groups-back m h = ap joined (groups-place m ∙ words_back m.groups 4 ∙ each-word_of 4 m.groups) ∙ joined-whole 4 m.groups h

pub label-back : (m : Marks) → LabelFits m → label_in (label_bytes m) ≡ m
unfolding label_in
label-back m fits =
    at _ _ _ (level-place m) (compartments-place m ∙ word_back m.compartments fits.compartments) (groups-back m fits.groups)
  where
    at : (l c g : ℕ) → l ≡ m.level → c ≡ m.compartments → g ≡ m.groups → record { level = l; compartments = c; groups = g } ≡ m
    at l c g p q r = rw (p, q, r)

-- what a function that lays a label down has to show: each byte
pub label_kept : (bytes : List ℕ) (m : Marks) → LabelFits m → bytes ≡ label_bytes m → (bytes ≡ label_bytes m) × (label_in bytes ≡ m)
label_kept bytes m fits e = (e, ap label_in e ∙ label-back m fits)

-- ---- a session in 104 bytes
pub session-length : (s : SessionMarks) → length (session_bytes s) ≡ 104
unfolding session_bytes label_bytes set_bytes
session-length s = refl

-- where its parts stand
pub user-place : (s : SessionMarks) → byte_at (session_bytes s) 0 ≡ s.user
unfolding session_bytes
user-place s = refl

pub label-place : (s : SessionMarks) → part (session_bytes s) 8 48 ≡ label_bytes s.label
unfolding session_bytes label_bytes set_bytes
label-place s = refl

pub row-place : (s : SessionMarks) → part (session_bytes s) 56 48 ≡ label_bytes s.row
unfolding session_bytes label_bytes set_bytes
row-place s = refl

pub one-user : (s : SessionMarks) → one_user (session_bytes s) ≡ true
unfolding session_bytes
one-user s = eq-eqb s.user s.user refl

-- where both labels read back as themselves
labels-back : (s : SessionMarks) → label_in (label_bytes s.label) ≡ s.label → label_in (label_bytes s.row) ≡ s.row
    → session_in (session_bytes s) ≡ s
unfolding session_in
labels-back s label row = rw (user-place s, label-place s, row-place s, label, row)

pub session-back : (s : SessionMarks) → SessionPartsFit s → session_in (session_bytes s) ≡ s
session-back s fits = labels-back s (label-back s.label fits.label) (label-back s.row fits.row)

pub bytes-hold : (s : SessionMarks) → SessionPartsFit s → Holds (session_bytes s) s
bytes-hold s fits = record { one = one-user s; session = session-back s fits }

-- what a function that lays a session down has to show: its labels' bytes, as `label_bytes` gives them, and each byte
pub session-kept : (bytes label row : List ℕ) (s : SessionMarks)
    → (label ≡ label_bytes s.label) × (label_in label ≡ s.label) → (row ≡ label_bytes s.row) × (label_in row ≡ s.row)
    → bytes ≡ session_bytes s → (bytes ≡ session_bytes s) × (session_in bytes ≡ s)
session-kept bytes label row s l r e =
    (e, ap session_in e ∙ labels-back s (ap label_in (sym l.0) ∙ l.1) (ap label_in (sym r.0) ∙ r.1))
