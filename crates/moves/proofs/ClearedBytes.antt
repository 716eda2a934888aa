-- The clearing move changes no byte but holders' privileges and the checks of their blocks; without holders it changes none. Assumes nothing.
use Prim.Native.Nat.{ℕ, zero, suc, ◌+◌, ◌*◌, ◌/◌, ◌%◌, ◌≤◌, ◌<◌}
use mathlib.Core.Path.{◌≡◌, refl, sym, ap, ◌∙◌, subst}
use mathlib.Core.Bool.{Bool, true, false, true≢false}
use mathlib.Core.List.{List, []}
use mathlib.Core.Logic.{◌⊎◌, inl, inr, ⊎_elim}
use native.Mathlib.Nat.{div-add-mod, eq-or-lt_of_le}
use native.Mathlib.Omega.{arith}
use borrow.Author.Tests.{eqb-true, eqb-false, ltb-true, ltb-false}
use lib.Dec.{eqb, ltb}
use lib.ListN.{length, get_or-eq_default}
use lib.Seq.{ext_get_or}
use Rattle.fields.specs.Bytes.{byte_at, AreBytes}
use Rattle.fields.proofs.PlacesWhere.{none-where}
use Rattle.header.specs.declared.edition.Edition.{Edition}
use Rattle.header.specs.declared.edition.Edition.TheVariants.{One, Two}
use Rattle.header.specs.declared.layout.Kind.{Kind}
use Rattle.header.specs.declared.layout.Kind.TheVariants.{Component, Label, User}
use Rattle.header.specs.declared.layout.Shape.{Shape}
use Rattle.header.specs.Layout.{edition_of, profile_of, levels, compartments, groups, users, labels, counts_of}
use Rattle.header.specs.Layout.{record_size, count_of, blocks_needed, shape_of, record_block, record_offset, record_at, user_record, contents_of}
use Rattle.header.proofs.Inside.{shape-roomy, slot-inside, blocks-after, held-is}
use Rattle.records.specs.Fields.{privileges}
use Rattle.image.specs.Check.{IsAccepted}
use Rattle.image.proofs.EveryRule.{EveryRule, accepted-keeps}
use Rattle.writing.specs.Laid.{counts_from}
use Rattle.writing.proofs.CountBytes.{count-bytes}
use Rattle.writing.proofs.SameBytes.{record-byte, needed-same, shape_same, body_same, block_same}
use Rattle.writing.proofs.SameHeader.{header-same}
use Rattle.moves.specs.declared.target.Move.TheVariants.{Clear}
use Rattle.moves.specs.Moved.{without_compaccess, clear_user, new_records, new_counts, new_image}
use Rattle.moves.specs.Holders.{is_holder, holders}
use Rattle.moves.proofs.ClearedAlike.{cleared-byte, cleared-held}
use Rattle.moves.proofs.CompaccessBits.{none-gone}
use Rattle.moves.proofs.NewImage.{new-fits, new-limited, old-length, moved-counts, moved-count, moved-record}
use Rattle.moves.proofs.MovedAccepted.{moved-accepted}

-- ---- the bytes that change
-- where the privileges of the user at place u stand
abbrev pub privilege_byte : List ℕ → ℕ → ℕ
privilege_byte im u = record_offset (shape_of im User) u + 31

-- byte i is in the check of that user's block
abbrev pub InCheck : List ℕ → ℕ → ℕ → Type 0
InCheck im u i = let b = record_block (shape_of im User) u in (i ≡ 512 * b + 510) ⊎ (i ≡ 512 * b + 511)

-- byte i is neither of a holder's
abbrev pub Untouched : List ℕ → ℕ → Type 0
Untouched im i = (u : ℕ) → u < users im → is_holder im u ≡ true → (i ≡ privilege_byte im u → ⊥) × (InCheck im u i → ⊥)

pub record ClearedOnly (im new : List ℕ) : Type 0 where
  pub long : length new ≡ length im
  -- every byte that is no holder's privileges and not in the check of a holder's block is the old one
  pub others : (i : ℕ) → Untouched im i → byte_at new i ≡ byte_at im i
  -- privileges lose COMPACCESS and no other
  pub held : (u : ℕ) → u < users im → byte_at new (privilege_byte im u) ≡ without_compaccess (byte_at im (privilege_byte im u))

-- privileges stand inside their record, which stands inside its block
user-size : (edition : Edition) → 32 ≤ record_size edition User
user-size One = omega arith
user-size Two = omega arith

byte-block : (im : List ℕ) (b j u : ℕ) → j < 512 → 512 * b + j ≡ privilege_byte im u → record_block (shape_of im User) u ≡ b
unfolding record_offset
byte-block im b j u h at =
    let roomy = shape-roomy im User in
    let inside = slot-inside (shape_of im User) roomy u in
    omega (arith, roomy.room, user-size (edition_of im))

module _ (im : List ℕ) (acc : IsAccepted im) (old-edition : edition_of im ≡ One) (bytes : AreBytes im) where
  abbrev new : List ℕ
  new = new_image Clear im

  old : EveryRule im
  old = accepted-keeps im acc

  kept : EveryRule new
  kept = accepted-keeps new (moved-accepted Clear im acc old-edition refl)

  counts : counts_of new ≡ counts_of im
  counts =
      moved-counts Clear im old.fitted old-edition
      ∙ sym (ap (λ (e : Edition). counts_from e (profile_of im) (levels im) (compartments im) (groups im)) old-edition)

  users-same : users new ≡ users im
  users-same = moved-count Clear im old.fitted old-edition User

  labels-same : labels new ≡ labels im
  labels-same = moved-count Clear im old.fitted old-edition Label

  -- the counts of the new header are bytes
  new-bytes : (i : ℕ) → 8 ≤ i → i < 16 → byte_at new i < 256
  unfolding new_image
  new-bytes =
      count-bytes (new_counts Clear im) (new_records Clear im) (new-fits Clear im old.fitted old-edition)
      (new-limited im old.header old-edition Clear refl)

  -- ---- records
  record_same : (kind : Kind) (i k : ℕ) → i < count_of im kind → (kind ≡ User → is_holder im i ≡ true → k ≡ 31 → ⊥)
      → byte_at (record_at new kind i) k ≡ byte_at (record_at im kind i) k
  record_same Component i k h other = ap (λ (rec : List ℕ). byte_at rec k) (moved-record Clear im old.fitted old-edition Component i h)
  record_same Label i k h other = ap (λ (rec : List ℕ). byte_at rec k) (moved-record Clear im old.fitted old-edition Label i h)
  record_same User i k h other =
      ap (λ (rec : List ℕ). byte_at rec k) (moved-record Clear im old.fitted old-edition User i h) ∙ at (eqb k 31) refl (is_holder im i) refl
    where
      long : length (user_record im i) ≡ record_size One User
      long = old-length im old.fitted old-edition User i h

      at : (t : Bool) → eqb k 31 ≡ t → (u : Bool) → is_holder im i ≡ u → byte_at (clear_user (user_record im i)) k ≡ byte_at (user_record im i) k
      at true e true f = absurd (other refl f (eqb-true k 31 e))
      at true e false f =
          rw (eqb-true k 31 e) (cleared-held (user_record im i) long ∙ none-gone (privileges (user_record im i)) f)
      at false e u f = cleared-byte (user_record im i) long k (eqb-false k 31 e)

  -- ---- blocks
  -- block b after the header, at a byte before its check
  body : (b : ℕ) → 1 ≤ b → b < blocks_needed im → (j : ℕ) → j < 510
      → ((u : ℕ) → u < users im → is_holder im u ≡ true → 512 * b + j ≡ privilege_byte im u → ⊥)
      → byte_at new (512 * b + j) ≡ byte_at im (512 * b + j)
  body b low high j h other =
      body_same im new old kept counts users-same labels-same b low high j h
      (λ i k from to inside at.
      record_same (contents_of im b).kind i k (omega (arith, (held-is im b low high).counted))
      (λ user held-it last. other i (subst (λ (kind : Kind). i < count_of im kind) user (omega (arith, (held-is im b low high).counted))) held-it
      (at ∙ ap (λ (kind : Kind). record_offset (shape_of im kind) i + k) user ∙ ap (λ (n : ℕ). record_offset (shape_of im User) i + n) last)))

  -- a block without holders, the header too
  whole : (b : ℕ) → b < blocks_needed im
      → ((u : ℕ) → u < users im → is_holder im u ≡ true → record_block (shape_of im User) u ≡ b → ⊥)
      → (j : ℕ) → j < 512 → byte_at new (512 * b + j) ≡ byte_at im (512 * b + j)
  whole zero high other =
      block_same im new old kept counts users-same labels-same 0 high
      (header-same im new old kept counts users-same labels-same bytes new-bytes)
  whole (suc b) high other =
      block_same im new old kept counts users-same labels-same (suc b) high (λ j h. body (suc b) (omega arith) high j h (none j h))
    where
      none : (j : ℕ) → j < 510 → (u : ℕ) → u < users im → is_holder im u ≡ true → 512 * suc b + j ≡ privilege_byte im u → ⊥
      none j h u few held-it at = other u few held-it (byte-block im (suc b) j u (omega arith) at)

  -- ---- the image
  as_long : length new ≡ length im
  as_long =
      let needed = needed-same im new old kept counts users-same labels-same in
      omega (arith, old.fitted, kept.fitted)

  -- byte j of block b
  byte-same : (b j : ℕ) → j < 512 → b < blocks_needed im → Untouched im (512 * b + j) → byte_at new (512 * b + j) ≡ byte_at im (512 * b + j)
  byte-same b j h high other = at (ltb j 510) refl b high other
    where
      in-check : ltb j 510 ≡ false → (c u : ℕ) → record_block (shape_of im User) u ≡ c → InCheck im u (512 * c + j)
      in-check e c u q =
          let more = ltb-false j 510 e in
          ⊎_elim (λ p. inl (omega (arith, q))) (λ l. inr (omega (arith, q))) (eq-or-lt_of_le more)

      at : (t : Bool) → ltb j 510 ≡ t → (c : ℕ) → c < blocks_needed im → Untouched im (512 * c + j)
          → byte_at new (512 * c + j) ≡ byte_at im (512 * c + j)
      at true e zero below touched =
          whole 0 below (λ u few held-it q. let after = blocks-after im User in absurd (omega (arith, q))) j h
      at true e (suc c) below touched = body (suc c) (omega arith) below j (ltb-true j 510 e) (λ u few held-it. (touched u few held-it).0)
      at false e c below touched = whole c below (λ u few held-it q. (touched u few held-it).1 (in-check e c u q)) j h

  others_same : (i : ℕ) → Untouched im i → byte_at new i ≡ byte_at im i
  others_same i other = at (ltb i (length im)) refl
    where
      there : 512 * (i / 512) + i % 512 ≡ i
      there = div-add-mod i 512

      at : (t : Bool) → ltb i (length im) ≡ t → byte_at new i ≡ byte_at im i
      at true e =
          let inside : i / 512 < blocks_needed im = omega (arith, ltb-true i (length im) e, old.fitted) in
          subst (λ (k : ℕ). byte_at new k ≡ byte_at im k) there
          (byte-same (i / 512) (i % 512) (omega arith) inside (subst (Untouched im) (sym there) other))
      at false e =
          let past = ltb-false i (length im) e in
          get_or-eq_default new 0 (omega (arith, as_long)) ∙ sym (get_or-eq_default im 0 past)

  held_same : (u : ℕ) → u < users im → byte_at new (privilege_byte im u) ≡ without_compaccess (byte_at im (privilege_byte im u))
  held_same u h =
      let long = old-length im old.fitted old-edition User u h in
      let shape = shape_same im new old kept counts users-same labels-same User in
      ap (λ (s : Shape). byte_at new (record_offset s u + 31)) (sym shape)
      ∙ record-byte new User u 31 (omega (arith, user-size (edition_of new)))
      ∙ ap (λ (rec : List ℕ). byte_at rec 31) (moved-record Clear im old.fitted old-edition User u h)
      ∙ cleared-held (user_record im u) long
      ∙ ap without_compaccess (sym (record-byte im User u 31 (omega (arith, user-size (edition_of im)))))

  pub cleared-only : ClearedOnly im new
  cleared-only = record { long = as_long; others = others_same; held = held_same }

  -- without holders nothing changes
  pub cleared-none : holders im ≡ [] → new ≡ im
  unfolding holders
  cleared-none none =
      ext_get_or 0 new im as_long
      (λ i h. others_same i (λ u few held-it.
      absurd (true≢false (sym held-it ∙ none-where (is_holder im) (users im) 0 (ap length none) u (omega arith) (omega arith)))))
