-- The main theorems on maps (request R-4), each stated in full over definitions of specs (and `FrontDone`, which says what a call that wrote to the front
-- of a buffer left there). Assumes nothing.
use Rattle.std.proofs.Common.{Ok, Err}
use Prim.Native.Nat.{ℕ, ◌+◌, ◌*◌, ◌≤◌, ◌<◌}
use mathlib.Core.Path.{◌≡◌, refl, sym, ap, ◌∙◌}
use mathlib.Core.Bool.{Bool, true, false, cond}
use mathlib.Core.Logic.{◌↔◌}
use mathlib.Core.List.{List}
use native.Mathlib.Omega.{arith}
use borrow.Author.Tests.{lt-ltb, le-ltb, le-leb, lt-leb}
use lib.ListN.{length, take}
use Rattle.fields.specs.Bytes.{AreBytes}
use Rattle.refusals.specs.declared.Refusal.TheVariants.{Room, WrongMap}
use Rattle.refusals.specs.Answers.{or_refuse, Verdict}
use Rattle.buffers.specs.Pasting.{at_front}
use Rattle.buffers.proofs.FrontWritten.{FrontDone, checked-done}
use Rattle.header.specs.declared.edition.Edition.TheVariants.{One, Two}
use Rattle.header.specs.Layout.{edition_of, labels, label_record}
use Rattle.records.specs.Fields.{tag_of}
use Rattle.image.specs.Lookup.{label_of_tag}
use Rattle.image.specs.Check.{IsAccepted}
use Rattle.image.proofs.Accepted.{accepted-counted}
use Rattle.image.proofs.Policy.{label-found}
use Rattle.access.specs.Rights.{Rights}
use Rattle.access.specs.Verdicts.{reads_all, reads_label, known_tag, unknown_read, may_read}
use Rattle.sessions.specs.Session.{SessionMarks, lent_answer, session_rights}
use Rattle.sessions.specs.Asking.{may_read_of}
use Rattle.sessions.proofs.Accepting.{lent-accepted}
use Rattle.maps.specs.Map.{bit_of, reads_record, map_length, map_of, map_rule}
use Rattle.maps.specs.Calls.{make_map_of, judge_map_of}
use Rattle.maps.proofs.Bits as bits
use Rattle.maps.proofs.Judged.{judged-lent, judged-right, judged-map}
use Rattle.rows.specs.Run.{kept}
use Rattle.rows.specs.Table.{rows_of, row_tag, row_readable, readable_rows, table_answer}
use Rattle.rows.specs.Reading.{handed_out, read_rows_of}
use Rattle.rows.specs.Mapped.{tag_mapped, mapped_rows, read_mapped_of}
use Rattle.rows.proofs.ByMap as rows
use Rattle.claims.proofs.Moves.{zero-unknown}

-- ---- what the map is
-- Of an accepted session: bit p is set exactly if `may_read` answers yes on the tag of the p-th label record; past the last record bits are zero.
pub bit-verdict : (im : List ℕ) (s : SessionMarks) → lent_answer im s ≡ (Ok tt) → (p : ℕ) → p < labels im
    → Ok (bit_of (map_of im (session_rights im s)) p) ≡ may_read_of im s (tag_of (label_record im p))
unfolding may_read_of reads_record may_read known_tag
bit-verdict im s accepted p h =
    let found = label-found im (lent-accepted im s accepted) p h in
    ap Ok (bits.bit_is im (session_rights im s) p) ∙ rw (accepted, found, lt-ltb p (labels im) h)

pub spare-zero : (im : List ℕ) (rights : Rights) (p : ℕ) → labels im ≤ p → bit_of (map_of im rights) p ≡ false
unfolding reads_record
spare-zero im rights p h = bits.bit_is im rights p ∙ rw (le-ltb p (labels im) h)

-- It has as few bytes as hold a bit for each label record.
pub map-length : (im : List ℕ) (rights : Rights)
    → (length (map_of im rights) ≡ map_length im) × ((labels im ≤ 8 * map_length im) × (8 * map_length im < labels im + 8))
map-length im rights = (bits.map-long im rights, (bits.length-holds im, bits.length-least im))

-- Any bytes of that length with the right bits, spare ones zero, are the map: nothing else about it is to be known by who makes one elsewhere.
pub map-unique : (im : List ℕ) (rights : Rights) (lent : List ℕ) → length lent ≡ map_length im → AreBytes lent
    → ((p : ℕ) → bit_of lent p ≡ reads_record im rights p) → lent ≡ map_of im rights
map-unique = bits.map-unique

-- With READ or FULL every label's bit is set.
pub all_set : (im : List ℕ) (rights : Rights) → reads_all rights ≡ true → (p : ℕ) → p < labels im → bit_of (map_of im rights) p ≡ true
unfolding reads_record reads_label
all_set im rights all p h = bits.bit_is im rights p ∙ rw (lt-ltb p (labels im) h, all)

-- ---- the calls
-- `make_map` is done for every accepted session where the buffer has room for the map, and 210 bytes are always enough; otherwise it is 13.
pub map-done : (im : List ℕ) (s : SessionMarks) (buffer : List ℕ) → lent_answer im s ≡ (Ok tt) → map_length im ≤ length buffer
    → make_map_of im s buffer ≡ (Ok (map_length im), at_front (map_of im (session_rights im s)) buffer)
unfolding make_map_of
map-done im s buffer accepted room =
    rw (accepted, bits.map-long im (session_rights im s), le-leb (map_length im) (length buffer) room)

pub map-no-room : (im : List ℕ) (s : SessionMarks) (buffer : List ℕ) → lent_answer im s ≡ (Ok tt) → length buffer < map_length im
    → make_map_of im s buffer ≡ (Err Room, buffer)
unfolding make_map_of
map-no-room im s buffer accepted short =
    rw (accepted, bits.map-long im (session_rights im s), lt-leb (map_length im) (length buffer) short)

pub map-at-most : (im : List ℕ) → IsAccepted im → map_length im ≤ 210
map-at-most im acc = bits.map-at-most im (accepted-counted im acc)

-- Where `make_map` is done, the front of the buffer is the map, of the length that is told, and later bytes stay.
pub map-made : (im : List ℕ) (s : SessionMarks) (buffer after : List ℕ) (n : ℕ) → make_map_of im s buffer ≡ (Ok n, after)
    → (lent_answer im s ≡ Ok tt) × FrontDone buffer (map_of im (session_rights im s)) after n
unfolding make_map_of
map-made im s buffer after n e = checked-done buffer (map_of im (session_rights im s)) after n (lent_answer im s) e

-- `judge_map` accepts exactly the map for that image and session; any other bytes are 20.
pub judged-exactly : (im : List ℕ) (s : SessionMarks) (lent : List ℕ)
    → (judge_map_of im s lent ≡ Ok tt) ↔ ((lent_answer im s ≡ Ok tt) × (lent ≡ map_of im (session_rights im s)))
judged-exactly im s lent = (
  (λ e. (judged-lent im s lent e, bits.rule-means im (session_rights im s) lent (judged-right im s lent e))),
  (λ p. judged-map im s lent p.0 p.1),
)

pub judged-wrong : (im : List ℕ) (s : SessionMarks) (lent : List ℕ) → lent_answer im s ≡ (Ok tt) → (lent ≡ map_of im (session_rights im s) → ⊥)
    → judge_map_of im s lent ≡ Err WrongMap
unfolding judge_map_of
judged-wrong im s lent e wrong = rw e (at (map_rule im (session_rights im s) lent) refl)
  where
    at : (t : Bool) → map_rule im (session_rights im s) lent ≡ t → or_refuse t WrongMap (Ok tt) ≡ Err WrongMap
    at true r = absurd (wrong (bits.rule-means im (session_rights im s) lent r))
    at false r = refl

-- So it accepts what `make_map` writes.
pub made-judged : (im : List ℕ) (s : SessionMarks) (buffer after : List ℕ) (n : ℕ) → make_map_of im s buffer ≡ (Ok n, after)
    → judge_map_of im s (take n after) ≡ Ok tt
made-judged im s buffer after n e =
    let made = map-made im s buffer after n e in
    judged-map im s (take n after) made.0 made.1.front

-- ---- verdicts by a map
-- yes is not no
yes-no : ◌≡◌ {A = Verdict} (Ok true) (Ok false) → ⊥
yes-no e = let z : ◌≡◌ {A = ℕ} 0 1 = cc in omega arith

-- the bool is what the session's rights say of unknown tags
seen-tells : (im : List ℕ) (s : SessionMarks) → lent_answer im s ≡ (Ok tt) → (t : Bool) → may_read_of im s 0 ≡ Ok t
    → t ≡ unknown_read im (session_rights im s)
unfolding may_read_of
seen-tells im s accepted t e =
    let rights = session_rights im s in
    let zero = rows.unknown-verdict im rights 0 (zero-unknown im (lent-accepted im s accepted)) in
    verdict-tells t (may_read im rights 0) (sym e ∙ rw accepted) ∙ sym zero
  where
    verdict-tells : (a b : Bool) → ◌≡◌ {A = Verdict} (Ok a) (Ok b) → a ≡ b
    verdict-tells true true q = refl
    verdict-tells true false q = absurd (yes-no q)
    verdict-tells false true q = absurd (yes-no (sym q))
    verdict-tells false false q = refl

-- By an accepted map the bit of a known tag's record is the verdict of `may_read`.
pub known-verdict : (im : List ℕ) (s : SessionMarks) (lent : List ℕ) → judge_map_of im s lent ≡ (Ok tt) → (tag : ℕ) → known_tag im tag ≡ true
    → Ok (bit_of lent (label_of_tag im tag)) ≡ may_read_of im s tag
unfolding may_read_of
known-verdict im s lent e tag known =
    rw (judged-lent im s lent e) (ap Ok (rows.known-bit im (session_rights im s) lent (judged-right im s lent e) tag known))

-- All unknown tags have one verdict, that of tag 0, which no label carries.
pub unknown-verdict : (im : List ℕ) (s : SessionMarks) → lent_answer im s ≡ (Ok tt) → (tag : ℕ) → known_tag im tag ≡ false
    → may_read_of im s tag ≡ may_read_of im s 0
unfolding may_read_of
unknown-verdict im s accepted tag unknown =
    let zero = rows.unknown-verdict im (session_rights im s) 0 (zero-unknown im (lent-accepted im s accepted)) in
    rw accepted (ap Ok (sym (rows.unknown-verdict im (session_rights im s) tag unknown) ∙ zero))

-- So whoever has an accepted map and one bool, the verdict of `may_read` on tag 0, has the verdict on every tag: by the tag's place among the records'
-- tags and its bit, and for a tag that is not among them by the bool. A loop that does so hands out the rows that the library does.
pub mapped-verdict : (im : List ℕ) (s : SessionMarks) (lent : List ℕ) (unknownSeen : Bool) → judge_map_of im s lent ≡ Ok tt
    → may_read_of im s 0 ≡ Ok unknownSeen → (tag : ℕ) → Ok (tag_mapped im lent unknownSeen tag) ≡ may_read_of im s tag
unfolding tag_mapped
mapped-verdict im s lent unknownSeen e zero tag = at (known_tag im tag) refl
  where
    at : (t : Bool) → known_tag im tag ≡ t → Ok (cond t (bit_of lent (label_of_tag im tag)) unknownSeen) ≡ may_read_of im s tag
    at true known = known-verdict im s lent e tag known
    at false unknown = sym zero ∙ sym (unknown-verdict im s (judged-lent im s lent e) tag unknown)

pub mapped-rows : (im : List ℕ) (s : SessionMarks) (lent : List ℕ) (unknownSeen : Bool) → judge_map_of im s lent ≡ Ok tt
    → may_read_of im s 0 ≡ Ok unknownSeen → (table : List ℕ) (w : ℕ)
    → mapped_rows im lent unknownSeen table w ≡ readable_rows im (session_rights im s) table w
mapped-rows im s lent unknownSeen e zero table w =
    ap (λ (b : Bool). mapped_rows im lent b table w) (seen-tells im s (judged-lent im s lent e) unknownSeen zero)
    ∙ rows.rows-mapped im (session_rights im s) lent (judged-right im s lent e) table w

-- ---- rows
-- A mapped read's answer and buffer are the plain read's, for every table, width and buffer, whatever privileges the user holds.
pub mapped-read : (im : List ℕ) (s : SessionMarks) (lent : List ℕ) → judge_map_of im s lent ≡ (Ok tt) → (table : List ℕ) (w : ℕ) (buffer : List ℕ)
    → read_mapped_of im s table w lent buffer ≡ read_rows_of im s table w buffer
mapped-read im s lent e table w buffer = rows.mapped-right im s table w lent buffer e

-- Other bytes are 20 after all that the plain read asks before its rows, whatever rows there are and however long the buffer is.
pub mapped-wrong : (im : List ℕ) (s : SessionMarks) (lent : List ℕ) (table : List ℕ) (w : ℕ) (buffer : List ℕ)
    → table_answer im s table w ≡ (Ok tt) → (lent ≡ map_of im (session_rights im s) → ⊥)
    → read_mapped_of im s table w lent buffer ≡ (Err WrongMap, buffer)
mapped-wrong im s lent table w buffer a wrong = rows.mapped-wrong im s table w lent buffer a (at (map_rule im (session_rights im s) lent) refl)
  where
    at : (t : Bool) → map_rule im (session_rights im s) lent ≡ t → t ≡ false
    at true r = absurd (wrong (bits.rule-means im (session_rights im s) lent r))
    at false r = refl

-- With READ or FULL, and so by their map too, every row of a table is handed out in edition 1.
all_seen : (im : List ℕ) (rights : Rights) → reads_all rights ≡ true → edition_of im ≡ One → (tag : ℕ) → may_read im rights tag ≡ true
unfolding may_read reads_label
all_seen im rights all one tag = rw (all, one) (at (known_tag im tag))
  where
    at : (t : Bool) → cond t true true ≡ true
    at true = refl
    at false = refl

pub all-handed : (im : List ℕ) (s : SessionMarks) (lent : List ℕ) → judge_map_of im s lent ≡ (Ok tt) → reads_all (session_rights im s) ≡ true
    → edition_of im ≡ One → (table : List ℕ) (w : ℕ) (buffer : List ℕ) → table_answer im s table w ≡ Ok tt
    → read_mapped_of im s table w lent buffer ≡ handed_out (rows_of table w) buffer
unfolding read_rows_of readable_rows
all-handed im s lent e all one table w buffer a =
    let rights = session_rights im s in
    mapped-read im s lent e table w buffer
    ∙ rw (a, rows.kept-all (row_readable im rights) (λ row. all_seen im rights all one (row_tag row)) (rows_of table w))

-- In edition 2 those of known tags are, and no other.
known-seen : (im : List ℕ) (rights : Rights) → reads_all rights ≡ true → edition_of im ≡ Two → (tag : ℕ) → may_read im rights tag ≡ known_tag im tag
unfolding may_read reads_label
known-seen im rights all two tag = rw (all, two) (at (known_tag im tag))
  where
    at : (t : Bool) → cond t true false ≡ t
    at true = refl
    at false = refl

pub known-handed : (im : List ℕ) (s : SessionMarks) (lent : List ℕ) → judge_map_of im s lent ≡ (Ok tt) → reads_all (session_rights im s) ≡ true
    → edition_of im ≡ Two → (table : List ℕ) (w : ℕ) (buffer : List ℕ) → table_answer im s table w ≡ Ok tt
    → read_mapped_of im s table w lent buffer ≡ handed_out (kept (λ row. known_tag im (row_tag row)) (rows_of table w)) buffer
unfolding read_rows_of readable_rows
known-handed im s lent e all two table w buffer a =
    let rights = session_rights im s in
    mapped-read im s lent e table w buffer
    ∙ rw (a, rows.kept_same (row_readable im rights) (λ row. known_tag im (row_tag row)) (λ row. known-seen im rights all two (row_tag row)) (rows_of table w))
