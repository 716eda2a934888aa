-- Sets in rows: what four stores put, and the rows turned over, sixty-four at once. Assumes nothing.
use Prim.Native.Nat.{ℕ, zero, suc, ◌+◌, ◌-◌, ◌*◌, ◌/◌, ◌%◌, ◌^◌, ◌≤◌, ◌<◌}
use mathlib.Core.Path.{◌≡◌, refl, sym, ap, ap₂, ◌∙◌}
use mathlib.Core.Bool.{Bool, true, false, ◌&&◌}
use mathlib.Core.List.{List, [], ◌∷◌, ◌++◌}
use native.Mathlib.Omega.{arith}
use lib.Dec.{ltb}
use lib.ListN.{length, get_or, set, take, drop, length-set}
use lib.Seq.{get_or-set_same, get_or-set_other, get_or-append-add, get_or-take, get_or-drop, length-take-le, take_at}
use borrow.Rule.Slice.PartMut.{put_mid, post_of, mid_len, same_len_mid, take_put, drop_put}
use borrow.Author.Tests.{ltb-true, ltb-false}
use Rattle.fields.specs.Scan.{first_bad}
use Rattle.fields.proofs.Scan.{bad-same-on}
use Rattle.sets.specs.Sets.{has, within, all_below}
use Rattle.sets.specs.Words.{word_of, joined}
use Rattle.sets.specs.Groups.{places_of}
use Rattle.sets.specs.Transposed.{Transposed}
use Rattle.sets.proofs.Has.{has-ext}
use Rattle.sets.proofs.Bounds.{below-lacks, within-below}
use Rattle.sets.proofs.Words.{joined-has}
use Rattle.records.specs.declared.users.GroupSets.{GroupSets}
use Rattle.hierarchy.specs.Forest.{Forest, table_room}
use Rattle.hierarchy.specs.Columns.{column, columns_rule}
use Rattle.hierarchy.specs.SetRows.{set_at, SetPut, Turned, UserPut, RowsFit, rows_rule}
use Rattle.hierarchy.proofs.InOrder.{four-words}
use Rattle.hierarchy.proofs.ColumnTurns.{column-has}

-- ---- one set
four_same : (a b c d a' b' c' d' : ℕ) → a ≡ a' → b ≡ b' → c ≡ c' → d ≡ d' → joined (a ∷ b ∷ c ∷ d ∷ []) ≡ joined (a' ∷ b' ∷ c' ∷ d' ∷ [])
four_same a b c d a' b' c' d' p q r s = rw (p, q, r, s)

module _ (rows : List ℕ) (b w0 w1 w2 w3 : ℕ) (size : length rows ≡ table_room) (low : b < 64) where
  abbrev one : List ℕ
  one = set rows b w0

  abbrev two : List ℕ
  two = set (set rows b w0) (b + 64) w1

  abbrev three : List ℕ
  three = set (set (set rows b w0) (b + 64) w1) (b + 128) w2

  abbrev pub four : List ℕ
  four = set (set (set (set rows b w0) (b + 64) w1) (b + 128) w2) (b + 192) w3

  pub size-one : length (set rows b w0) ≡ table_room
  size-one = length-set rows b w0 ∙ size

  pub size-two : length (set (set rows b w0) (b + 64) w1) ≡ table_room
  size-two = length-set one (b + 64) w1 ∙ size-one

  pub size-three : length (set (set (set rows b w0) (b + 64) w1) (b + 128) w2) ≡ table_room
  size-three = length-set two (b + 128) w2 ∙ size-two

  other : (c : ℕ) → (c ≡ b → ⊥) → (c ≡ b + 64 → ⊥) → (c ≡ b + 128 → ⊥) → (c ≡ b + 192 → ⊥) → get_or four c 0 ≡ get_or rows c 0
  other c n0 n1 n2 n3 =
      get_or-set_other three (b + 192) c w3 0 n3 ∙ get_or-set_other two (b + 128) c w2 0 n2 ∙ get_or-set_other one (b + 64) c w1 0 n1
      ∙ get_or-set_other rows b c w0 0 n0

  pub set-put : (s : ℕ) → s < 2 ^ 256 → w0 ≡ word_of s 0 → w1 ≡ word_of s 1 → w2 ≡ word_of s 2 → w3 ≡ word_of s 3 → SetPut b s rows four
  unfolding set_at
  set-put s small e0 e1 e2 e3 =
      record {
        size = length-set three (b + 192) w3 ∙ size-three;
        here = four_same _ _ _ _ w0 w1 w2 w3 first second third last ∙ four-words s w0 w1 w2 w3 small e0 e1 e2 e3;
        other =
            λ c h n.
            four_same _ _ _ _ _ _ _ _ (other c (omega arith) (omega arith) (omega arith) (omega arith))
            (other (c + 64) (omega arith) (omega arith) (omega arith) (omega arith)) (other (c + 128) (omega arith) (omega arith) (omega arith) (omega arith))
            (other (c + 192) (omega arith) (omega arith) (omega arith) (omega arith));
      }
    where
      first : get_or four b 0 ≡ w0
      first =
          get_or-set_other three (b + 192) b w3 0 (omega arith) ∙ get_or-set_other two (b + 128) b w2 0 (omega arith)
          ∙ get_or-set_other one (b + 64) b w1 0 (omega arith) ∙ get_or-set_same rows b w0 0 (omega (arith, size))

      second : get_or four (b + 64) 0 ≡ w1
      second =
          get_or-set_other three (b + 192) (b + 64) w3 0 (omega arith) ∙ get_or-set_other two (b + 128) (b + 64) w2 0 (omega arith)
          ∙ get_or-set_same one (b + 64) w1 0 (omega (arith, size-one))

      third : get_or four (b + 128) 0 ≡ w2
      third = get_or-set_other three (b + 192) (b + 128) w3 0 (omega arith) ∙ get_or-set_same two (b + 128) w2 0 (omega (arith, size-two))

      last : get_or four (b + 192) 0 ≡ w3
      last = get_or-set_same three (b + 192) w3 0 (omega (arith, size-three))

-- ---- the rows turned over
-- the first n rows are turned over, and the others stay
pub record Turning (n : ℕ) (before after : List ℕ) : Type 0 where
  pub size : length after ≡ table_room
  pub whole : n % 64 ≡ 0
  pub most : n ≤ table_room
  pub bits : (b g : ℕ) → b < 64 → g < n → has (get_or after g 0) b ≡ has (get_or before (b + g / 64 * 64) 0) (g % 64)
  pub rest : (g : ℕ) → n ≤ g → get_or after g 0 ≡ get_or before g 0

pub turn-none : (rows : List ℕ) → length rows ≡ table_room → Turning 0 rows rows
turn-none rows size = record { size = size; whole = refl; most = omega arith; bits = λ b g h l. absurd (omega arith); rest = λ g h. refl }

-- the next 64 rows
module _ (n : ℕ) (before now : List ℕ) (h : n < table_room) (so : Turning n before now) where
  pub next-room : n + 64 ≤ length now
  next-room = let whole = so.whole in omega (arith, so.size)

  pub next-long : length (take (n + 64 - n) (drop n now)) ≡ 64
  next-long = mid_len n (n + 64) now next-room ∙ omega arith

module _ (n : ℕ) (before now part : List ℕ) (h : n < table_room) (so : Turning n before now)
    (turned : Transposed (take (n + 64 - n) (drop n now)) part) where
  abbrev after : List ℕ
  after = put_mid n (n + 64 - n) now part

  room : n + 64 ≤ length now
  room = next-room n before now h so

  long : length part ≡ n + 64 - n
  long = turned.size ∙ omega arith

  taken : (j : ℕ) → j < 64 → get_or (take (n + 64 - n) (drop n now)) j 0 ≡ get_or now (n + j) 0
  taken j l = get_or-take (n + 64 - n) (drop n now) j 0 (omega arith) ∙ get_or-drop n now j 0

  here : (i : ℕ) → i < 64 → get_or after (n + i) 0 ≡ get_or part i 0
  here i l =
      let all = post_of n (n + 64 - n) now in
      let front : n ≡ length (take n now) = sym (length-take-le n now (let r = room in omega arith)) in
      ap (λ (x : ℕ). get_or after (x + i) 0) front ∙ get_or-append-add (take n now) (part ++ all) i 0
      ∙ sym (get_or-take 64 (part ++ all) i 0 l) ∙ ap (λ (xs : List ℕ). get_or xs i 0) (take_at part all 64 turned.size)

  lower : (g : ℕ) → g < n → get_or after g 0 ≡ get_or now g 0
  lower g l =
      sym (get_or-take n after g 0 l)
      ∙ ap (λ (xs : List ℕ). get_or xs g 0) (take_put n (n + 64 - n) now part (let r = room in omega arith)) ∙ get_or-take n now g 0 l

  upper : (g : ℕ) → n + 64 ≤ g → get_or after g 0 ≡ get_or now g 0
  upper g l =
      let e = n + 64 in
      let is : g ≡ e + (g - e) = omega arith in
      ap (λ (x : ℕ). get_or after x 0) is ∙ sym (get_or-drop e after (g - e) 0)
      ∙ ap (λ (xs : List ℕ). get_or xs (g - e) 0) (drop_put n e now part (omega arith) room long) ∙ get_or-drop e now (g - e) 0
      ∙ ap (λ (x : ℕ). get_or now x 0) (sym is)

  pub turn-next : Turning (n + 64) before after
  turn-next =
      let whole = so.whole in
      record {
        size = same_len_mid n (n + 64 - n) now part (turned.size ∙ sym (next-long n before now h so)) ∙ so.size;
        whole = omega arith;
        most = omega arith;
        bits = λ b g l k. at b g l k (ltb g n) refl;
        rest = λ g l. upper g l ∙ so.rest g (omega arith);
      }
    where
      at : (b g : ℕ) → b < 64 → g < n + 64 → (t : Bool) → ltb g n ≡ t → has (get_or after g 0) b ≡ has (get_or before (b + g / 64 * 64) 0) (g % 64)
      at b g l k true e = let m = ltb-true g n e in ap (λ (x : ℕ). has x b) (lower g m) ∙ so.bits b g l m
      at b g l k false e =
          let m = ltb-false g n e in
          let whole = so.whole in
          let i : g - n < 64 = omega arith in
          let is : n + (g - n) ≡ g = omega arith in
          let row : n + b ≡ b + g / 64 * 64 = omega arith in
          let place : g - n ≡ g % 64 = omega arith in
          ap (λ (x : ℕ). has (get_or after x 0) b) (sym is) ∙ ap (λ (x : ℕ). has x b) (here (g - n) i) ∙ turned.bits (g - n) b i l
          ∙ ap (λ (x : ℕ). has x (g - n)) (taken b l ∙ so.rest (n + b) (omega arith)) ∙ ap₂ (λ (x y : ℕ). has (get_or before x 0) y) row place

four-at : (rows : List ℕ) (b k : ℕ) → k < 4
    → get_or rows (b + k * 64) 0 ≡ get_or (get_or rows b 0 ∷ get_or rows (b + 64) 0 ∷ get_or rows (b + 128) 0 ∷ get_or rows (b + 192) 0 ∷ []) k 0
four-at rows b zero h = ap (λ (x : ℕ). get_or rows x 0) (omega arith)
four-at rows b (suc zero) h = refl
four-at rows b (suc (suc zero)) h = refl
four-at rows b (suc (suc (suc zero))) h = refl
four-at rows b (suc (suc (suc (suc k)))) h = absurd (omega arith)

pub turn_end : (n count : ℕ) (before after : List ℕ) → count ≤ n → count ≤ table_room → Turning n before after → Turned count before after
unfolding set_at
turn_end n count before after h room so =
    record {
      size = so.size;
      bits =
          λ b g l k.
          so.bits b g l (omega arith) ∙ ap (λ (x : ℕ). has x (g % 64)) (four-at before b (g / 64) (omega arith))
          ∙ sym (joined-has (get_or before b 0 ∷ get_or before (b + 64) 0 ∷ get_or before (b + 128) 0 ∷ get_or before (b + 192) 0 ∷ []) g);
    }

-- ---- a user's four sets
pub user-put : (i : ℕ) (sets : GroupSets) (before one two three after : List ℕ) → i < 16 → SetPut i (places_of sets.read) before one
    → SetPut (16 + i) (places_of sets.write) one two → SetPut (32 + i) (places_of sets.default) two three
    → SetPut (48 + i) (places_of sets.row) three after → UserPut i sets before after
user-put i sets before one two three after h read write default row =
    record {
      size = row.size;
      read =
          row.other i (omega arith) (omega arith) ∙ default.other i (omega arith) (omega arith) ∙ write.other i (omega arith) (omega arith) ∙ read.here;
      write = row.other (16 + i) (omega arith) (omega arith) ∙ default.other (16 + i) (omega arith) (omega arith) ∙ write.here;
      default = row.other (32 + i) (omega arith) (omega arith) ∙ default.here;
      row = row.here;
      other = λ b l m n o p. row.other b l p ∙ default.other b l o ∙ write.other b l n ∙ read.other b l m;
    }

-- ---- the columns of the rows that are turned over are the sets
module _ (count b : ℕ) (before after : List ℕ) (turned : Turned count before after) (low : b < 64)
    (fits : within (set_at before b) (all_below count) ≡ true) where
  pub column-set : column count after b ≡ set_at before b
  column-set = has-ext (column count after b) (set_at before b) (λ g. column-has count after b g ∙ at g (ltb g count) refl)
    where
      at : (g : ℕ) (t : Bool) → ltb g count ≡ t → (t && has (get_or after g 0) b) ≡ has (set_at before b) g
      at g true e = turned.bits b g low (ltb-true g count e)
      at g false e = sym (below-lacks (set_at before b) count (within-below (set_at before b) count fits) g (ltb-false g count e))

pub columns-are : (f : Forest) (rows rows' : List ℕ) → Turned f.count rows rows' → RowsFit f.count rows → (i : ℕ) → i < 16
    → columns_rule f rows' i ≡ rows_rule f rows i
columns-are f rows rows' turned fits i h = rw (at i (omega arith), at (16 + i) (omega arith), at (32 + i) (omega arith), at (48 + i) (omega arith))
  where
    at : (b : ℕ) → b < 64 → column f.count rows' b ≡ set_at rows b
    at b l = column-set f.count b rows rows' turned l (fits b l)

pub lowest-turned : (f : Forest) (rows rows' : List ℕ) → Turned f.count rows rows' → RowsFit f.count rows
    → first_bad (columns_rule f rows') 16 0 ≡ first_bad (rows_rule f rows) 16 0
lowest-turned f rows rows' turned fits =
    bad-same-on (columns_rule f rows') (rows_rule f rows) 16 0 (λ i low high. columns-are f rows rows' turned fits i high)
