-- The main theorems of the library, each stated in full over definitions of specs (and `EveryRule`, which says the image's rules in places,
-- `with_compaccess`, and `MovedBy` and `ClearedBy`, which say what a move keeps), and proved by citing where it is proved. A reader who wants to know what
-- is claimed can begin here; those on maps stand in MapClaims, those on small letters in TextClaims. Assumes nothing.
use Rattle.std.specs.Result.{IsErrAnd}
use Rattle.std.proofs.Common.{Ok, Err}
use Prim.Native.Nat.{ℕ, suc, ◌≤◌, ◌<◌}
use mathlib.Core.Path.{◌≡◌, refl, sym, ◌∙◌}
use mathlib.Core.Bool.{true, false}
use mathlib.Core.List.{List, [], map, flatten}
use mathlib.Core.Logic.{◌↔◌, ◌⊎◌}
use lib.ListN.{length, get_or}
use Rattle.fields.specs.Bytes.{AreBytes}
use Rattle.buffers.specs.Pasting.{at_front}
use Rattle.sets.specs.Sets.{has}
use Rattle.sets.proofs.Within.{within_has, has_within}
use Rattle.header.specs.declared.layout.Kind.{Kind}
use Rattle.header.specs.declared.edition.Edition.TheVariants.{One, Two}
use Rattle.header.specs.declared.profile.Profile.TheVariants.{Release}
use Rattle.header.specs.Layout.{edition_of, profile_of, groups, users, labels}
use Rattle.hierarchy.specs.Below.{forest_of, Above, below}
use Rattle.hierarchy.proofs.Under.{below_true, below-above, above-below}
use Rattle.refusals.specs.declared.Refusal.TheVariants.{ImageLayout, ParentRing, CompaccessHolders, MoveLimits}
use Rattle.image.specs.declared.faults.Fault.{Fault}
use Rattle.image.specs.Faults.{key_of, key_before, lowest, Among, faults_of}
use Rattle.image.specs.Check.{fault_of, check_of, IsAccepted}
use Rattle.image.specs.Exactly.{Framed, HeaderAtFault, LayoutAtFault, RingAtFault, RecordTold, record_refusal}
use Rattle.image.proofs.Exactly.{layout-exactly, record-exactly, ring-exactly}
use Rattle.image.proofs.Lowest.{all_among, lowest-among, lowest-least}
use Rattle.image.proofs.EveryRule as image
use Rattle.image.proofs.EveryRule.{EveryRule}
use Rattle.image.proofs.Policy.{parents-end}
use Rattle.labels.specs.Label.{Marks, label_at, label_exists}
use Rattle.labels.specs.GroupTest.{group_test}
use Rattle.labels.specs.Parse.{read, of_text, parse_of}
use Rattle.printing.specs.Print.{text_of}
use Rattle.roundtrip.proofs.RoundTrip.{parse-of-print, record-reads-back}
use Rattle.access.specs.Rights.{Rights, rights_at}
use Rattle.access.specs.Verdicts.{known_tag, reads_label, may_read, may_write, readable_at_maximum}
use Rattle.access.proofs.Released.{with_group, released-further, shown-no-more}
use Rattle.dominance.specs.TwoLabels.{dominates_of}
use Rattle.claims.specs.Reading.{NoPrivileges}
use Rattle.claims.proofs.ReadsDominated.{reads-dominated}
use Rattle.claims.proofs.Moves as moves
use Rattle.image.specs.Lookup.{label_of_tag}
use Rattle.image.specs.Search.{search_within, search_tag}
use Rattle.image.proofs.Halves.{eleven-steps, ten-steps}
use Rattle.access.proofs.More.{with_compaccess, compaccess-reads, compaccess-writes}
use Rattle.sessions.specs.Session.{SessionMarks, lent_answer, session_rights}
use Rattle.sessions.specs.Opening.{session, open_of}
use Rattle.sessions.specs.Changes.{set_label_of, set_row_label_of}
use Rattle.sessions.specs.Asking.{may_read_of, may_write_of}
use Rattle.sessions.proofs.Accepting.{lent-accepted}
use Rattle.sessions.proofs.Existing.{session-labels-exist}
use Rattle.sessions.proofs.Passing as passing
use Rattle.sessions.proofs.Bounded as bounded
use Rattle.moves.specs.declared.target.Move.TheVariants.{Up, Clear}
use Rattle.moves.specs.Moved.{new_image}
use Rattle.moves.specs.Holders.{is_holder, holders}
use Rattle.moves.specs.Moving.{move_up_of, compaccess_users_of, clear_compaccess_of}
use Rattle.moves.proofs.KeptByMove.{MovedBy, unknown-unread, unknown-unwritten, moved-by-call}
use Rattle.moves.proofs.ClearedBytes.{cleared-none}
use Rattle.moves.proofs.KeptByClearing.{ClearedBy, cleared-by-call}
use Rattle.encoding.specs.Sessions.{session_bytes, Holds}
use Rattle.encoding.proofs.ReadBack.{bytes-hold}
use Rattle.abi.proofs.Widths.{lent-widths}
use Rattle.lines.specs.Lines.{output_of}
use Rattle.lines.specs.Parts.{PartsOf}
use Rattle.lines.proofs.Rest.{output-joined}
use Rattle.isolation.specs.Calls.{Call}
use Rattle.isolation.specs.Claim.{Premises, Claim}
use Rattle.isolation.proofs.HiddenRows as isolation
use Rattle.claims.specs.CFunctions.{CCall, CPremises, CClaim}
use Rattle.claims.proofs.CFunctions as functions
use Rattle.sample.specs.Cases.{Case, asked, proved}
use Rattle.sample.proofs.Cases.{all-cases}

-- ---- the image
-- An image is accepted exactly if it keeps every rule: of its length, of each block's check and place, of the header, of each block's
-- layout, of each component, label and user record, of parents that end, and of a user's groups below one another.
pub accepted-exactly : (im : List ℕ) → IsAccepted im ↔ EveryRule im
accepted-exactly = image.accepted-exactly

-- The fault that is told is one of the image's, and none of them has a lower key (1 and 2 too; the keys are in the order of the papers).
pub told-among : (im : List ℕ) (told : Fault) → fault_of im ≡ Err told → Among told (faults_of im)
unfolding fault_of
told-among im told e = lowest-among (faults_of im) told e

pub told-lowest : (im : List ℕ) (f : Fault) → Among f (faults_of im) → IsErrAnd (fault_of im) (λ told. key_before (key_of f) (key_of told) ≡ false)
unfolding fault_of
told-lowest im f listed = all_among (lowest-least (faults_of im)) listed

-- 1 and 2 aside: 31 exactly if the header or the length is at fault, or a block's layout is and no lower block has a fault;
pub layout-told-exactly : (im : List ℕ) → Framed im
    → (check_of im ≡ Err ImageLayout) ↔ (HeaderAtFault im ⊎ ((b : ℕ) × LayoutAtFault im b))
layout-told-exactly = layout-exactly

-- 32 to 34 at block b and record r exactly if no lower block has a fault, b's layout is sound and r is its lowest record at fault, or, as 34
-- and last, if the record is that of the lowest user who breaks the rule of group sets;
pub record-told-exactly : (im : List ℕ) → Framed im → (kind : Kind) (b r : ℕ)
    → (check_of im ≡ Err (record_refusal kind b r)) ↔ RecordTold im kind b r
record-told-exactly = record-exactly

-- 35 exactly if none of these is at fault and g is the lowest group whose parents never end.
pub ring-told-exactly : (im : List ℕ) → Framed im → (g : ℕ) → (check_of im ≡ Err (ParentRing g)) ↔ RingAtFault im g
ring-told-exactly = ring-exactly

-- ---- the look-up of a tag
-- 11 steps of the search, each of which reads at most one record and compares three ways, settle every tag, known or not; in edition 2, which
-- has at most 800 labels, 10 do.
pub eleven-steps-settle : (im : List ℕ) → IsAccepted im → (tag : ℕ) → search_within im tag 11 0 ≡ label_of_tag im tag
unfolding search_tag
eleven-steps-settle im acc tag = eleven-steps im tag acc

pub ten-steps-settle : (im : List ℕ) → IsAccepted im → (tag : ℕ) → edition_of im ≡ Two → search_within im tag 10 0 ≡ label_of_tag im tag
ten-steps-settle im acc tag two = ten-steps im tag acc two

-- ---- groups
-- Below a set lie just the groups that are in it or have an ancestor in it, at any distance. (`Above im g p`: p is g or an ancestor of g.)
pub below-every-ancestor : (im : List ℕ) → IsAccepted im → (s g : ℕ)
    → (has (below im s) g ≡ true) ↔ ((g < groups im) × ((p : ℕ) × (Above im g p × (has s p ≡ true))))
below-every-ancestor im acc s g = (
  (λ e. ((below_true (forest_of im) s g e).0, below-above (forest_of im) s g e)),
  (λ q. above-below (forest_of im) s g q.1.0 q.0 (parents-end im acc g q.0) q.1.1.0 q.1.1.1),
)

-- ---- label text
-- The print of a label whose components exist reads back as that label,
pub print-reads-back : (im : List ℕ) → IsAccepted im → (m : Marks) → label_exists im m ≡ true → parse_of im (text_of im m) ≡ of_text (read m)
print-reads-back = parse-of-print

-- so does that of every label of an accepted image,
pub label-reads-back : (im : List ℕ) → IsAccepted im → (k : ℕ) → k < labels im
    → parse_of im (text_of im (label_at im k)) ≡ of_text (read (label_at im k))
label-reads-back = record-reads-back

-- and of both labels of an accepted session.
pub session-reads-back : (im : List ℕ) (s : SessionMarks) → lent_answer im s ≡ Ok tt
    → (parse_of im (text_of im s.label) ≡ of_text (read s.label)) × (parse_of im (text_of im s.row) ≡ of_text (read s.row))
session-reads-back im s e = (
  parse-of-print im (lent-accepted im s e) s.label (session-labels-exist im s e).0,
  parse-of-print im (lent-accepted im s e) s.row (session-labels-exist im s e).1,
)

-- ---- sessions
-- A session that opens passes every later test (19) of that image, and so does a session whose label or row label was changed.
pub opened-passes : (im name : List ℕ) (s : SessionMarks) → open_of im name ≡ session s → lent_answer im s ≡ Ok tt
opened-passes = passing.opened-passes

pub label-changed-passes : (im text : List ℕ) (s t : SessionMarks) → set_label_of im s text ≡ (t, Ok tt) → lent_answer im t ≡ Ok tt
label-changed-passes = passing.label-changed-passes

pub row-label-changed-passes : (im text : List ℕ) (s t : SessionMarks) → set_row_label_of im s text ≡ (t, Ok tt) → lent_answer im t ≡ Ok tt
row-label-changed-passes = passing.row-label-changed-passes

-- An accepted session that is laid down in bytes reads back as itself, and the bytes name its one user.
pub session-in-bytes : (im : List ℕ) (s : SessionMarks) → lent_answer im s ≡ (Ok tt) → Holds (session_bytes s) s
session-in-bytes im s e = bytes-hold s (lent-widths im s e)

-- ---- verdicts
-- No session reads a row that is not readable at its user's maximum read label.
pub reads-within-maximum : (im : List ℕ) (s : SessionMarks) (tag : ℕ) → may_read_of im s tag ≡ (Ok true) → readable_at_maximum im s.user tag ≡ true
reads-within-maximum = bounded.reads-within-maximum

-- A writable row is readable.
pub writable-readable : (im : List ℕ) (s : SessionMarks) (tag : ℕ) → may_write_of im s tag ≡ (Ok true) → may_read_of im s tag ≡ Ok true
writable-readable = bounded.writes-readable

-- Dominance agrees with reading: with an accepted session whose user holds none of READ, FULL and COMPACCESS, and a tag that a label record
-- carries, `may_read` answers yes exactly if `dominates` does of the session's label and the record's.
pub reads-exactly-if-dominates : (im : List ℕ) (s : SessionMarks) (tag : ℕ) → lent_answer im s ≡ (Ok tt) → NoPrivileges im s.user
    → known_tag im tag ≡ true → (may_read_of im s tag ≡ Ok true) ↔ (dominates_of im s.label (label_at im (label_of_tag im tag)) ≡ Ok true)
reads-exactly-if-dominates im s tag lent none known = (
  (λ e. sym (reads-dominated im s tag lent none known) ∙ e),
  (λ e. reads-dominated im s tag lent none known ∙ e),
)

-- Tag 0 is a tag that no label of an accepted image carries.
pub zero-unknown : (im : List ℕ) → IsAccepted im → known_tag im 0 ≡ false
zero-unknown = moves.zero-unknown

-- In edition 2 every tag that no label carries is denied to all sessions, whatever privileges their user holds.
pub unknown-denied : (im : List ℕ) → edition_of im ≡ Two → (s : SessionMarks) → lent_answer im s ≡ (Ok tt) → (tag : ℕ) → known_tag im tag ≡ false
    → (may_read_of im s tag ≡ Ok false) × (may_write_of im s tag ≡ Ok false)
unfolding may_read_of may_write_of
unknown-denied im two s lent tag unknown = (
  rw (lent, unknown-unread im two (session_rights im s) tag unknown),
  rw (lent, unknown-unwritten im two (session_rights im s) tag unknown),
)

-- COMPACCESS takes no row away.
pub compaccess-adds : (im : List ℕ) (rights : Rights) (tag : ℕ)
    → (may_read im rights tag ≡ true → may_read im (with_compaccess rights) tag ≡ true)
    × (may_write im rights tag ≡ true → may_write im (with_compaccess rights) tag ≡ true)
compaccess-adds im rights tag = (compaccess-reads rights im tag, compaccess-writes rights im tag)

-- ---- the release profile
-- The group test there: every group of the session is among the row's. So a session without groups passes for every row.
pub release-test : (asked row : ℕ) → (group_test Release asked row ≡ true) ↔ ((g : ℕ) → has asked g ≡ true → has row g ≡ true)
unfolding group_test
release-test asked row = (within_has asked row, has_within asked row)

-- A group that is added to a row's label hides it from no session that read it, and one that is added to a session shows it no row more.
pub release-adds : (rights : Rights) → rights.profile ≡ Release → (row : Marks) (g : ℕ) → reads_label rights row ≡ true
    → reads_label rights (with_group g row) ≡ true
release-adds = released-further

pub release-narrows : (im : List ℕ) → profile_of im ≡ Release → (u : ℕ) (label : Marks) (g tag : ℕ)
    → may_read im (rights_at im u (with_group g label)) tag ≡ true → may_read im (rights_at im u label) tag ≡ true
release-narrows = shown-no-more

-- ---- the move up
-- Where the call is done, the front of the buffer is an image, of the length that is told, and later bytes stay as they were. The image is accepted,
-- of edition 2, and holds the same components, labels and users, by the field readers of both editions; the same session opens for each name, the same
-- sessions are accepted, and their verdicts on every known tag are the same.
pub move-up-keeps : (im buffer after : List ℕ) (n : ℕ) → move_up_of im buffer ≡ (Ok n, after) → MovedBy im buffer after n
move-up-keeps = moved-by-call

-- An accepted image of edition 1 is moved if edition 2 has room for its labels and users, nobody holds COMPACCESS and the buffer has room for the new
-- image, for which 65,536 bytes are always enough. If edition 2 has no room, that is 37; then, if somebody holds COMPACCESS, 36 with how many do; both
-- before any look at the buffer.
pub move-up-done : (im buffer : List ℕ) → IsAccepted im → edition_of im ≡ One → labels im ≤ 800 → users im ≤ 32 → holders im ≡ []
    → 65536 ≤ length buffer → move_up_of im buffer ≡ (Ok (length (new_image Up im)), at_front (new_image Up im) buffer)
move-up-done = moves.done-if-few

pub move-up-limited : (im buffer : List ℕ) → IsAccepted im → edition_of im ≡ One → (800 < labels im) ⊎ (32 < users im)
    → move_up_of im buffer ≡ (Err MoveLimits, buffer)
move-up-limited = moves.limited-if-many

pub move-up-held : (im buffer : List ℕ) → IsAccepted im → edition_of im ≡ One → labels im ≤ 800 → users im ≤ 32 → (length (holders im) ≡ 0 → ⊥)
    → move_up_of im buffer ≡ (Err (CompaccessHolders (length (holders im))), buffer)
move-up-held = moves.held-if-some

-- An image of edition 2 that neither 1 nor 2 refuses is given 31 by the move up, the list and the clearing move, whatever else is wrong with it.
pub moved-once : (im buffer : List ℕ) → Framed im → edition_of im ≡ Two
    → (move_up_of im buffer ≡ (Err ImageLayout, buffer))
    × ((compaccess_users_of im buffer ≡ (Err ImageLayout, buffer)) × (clear_compaccess_of im buffer ≡ (Err ImageLayout, buffer)))
moved-once = moves.framed-once

-- ---- COMPACCESS
-- Listed are just the users who hold it, each once, by rising places; in an accepted image of edition 2 or of the release profile there is none.
pub holders-listed : (im : List ℕ) (u : ℕ)
    → ((j : ℕ) × ((j < length (holders im)) × (get_or (holders im) j 0 ≡ u))) ↔ ((u < users im) × (is_holder im u ≡ true))
holders-listed = moves.listed-exactly

pub holders-rise : (im : List ℕ) (j : ℕ) → suc j < length (holders im) → get_or (holders im) j 0 < get_or (holders im) (suc j) 0
holders-rise = moves.listed-rising

pub two-nobody : (im : List ℕ) → IsAccepted im → edition_of im ≡ Two → holders im ≡ []
two-nobody = moves.two-nobody

pub release-nobody : (im : List ℕ) → IsAccepted im → profile_of im ≡ Release → holders im ≡ []
release-nobody = moves.release-nobody

pub list_done : (im buffer : List ℕ) → IsAccepted im → edition_of im ≡ One → length (holders im) ≤ length buffer
    → compaccess_users_of im buffer ≡ (Ok (length (holders im)), at_front (holders im) buffer)
list_done = moves.list_done

-- Where the clearing move is done, the front of the buffer is an image, of the length that is told, and later bytes stay as they were. The image is
-- accepted; nobody in it holds COMPACCESS, so that a move up is not refused 36; each byte outside the privileges of those who held it and the checks of
-- their blocks is the old one; the same sessions open and are accepted; users without the bit keep every verdict, and the others lose none but what
-- COMPACCESS gave.
pub clear-keeps : (im buffer after : List ℕ) (n : ℕ) → clear_compaccess_of im buffer ≡ (Ok n, after) → ClearedBy im buffer after n
clear-keeps = cleared-by-call

-- It is done for every accepted image of edition 1 that the buffer has room for; where nobody holds COMPACCESS it writes the image as it is.
pub clear-done : (im buffer : List ℕ) → IsAccepted im → edition_of im ≡ One → length im ≤ length buffer
    → clear_compaccess_of im buffer ≡ (Ok (length im), at_front (new_image Clear im) buffer)
clear-done = moves.clear-done

pub clear-nobody : (im : List ℕ) → IsAccepted im → edition_of im ≡ One → AreBytes im → holders im ≡ [] → new_image Clear im ≡ im
clear-nobody = cleared-none

-- ---- the sample co-operative: each of the 16 cases P1 to P16 gives what document 01 says
pub sample-cases : (length proved ≡ 16) × (map asked proved ≡ map (λ (c : Case). c.expected) proved)
unfolding proved
sample-cases = (refl, all-cases)

-- ---- the report: parts as the contracts of the cursor's two calls give them, joined, are the whole output
pub report-whole : (im : List ℕ) (parts : List (List ℕ)) → PartsOf im (output_of im) parts → flatten parts ≡ output_of im
report-whole im parts run = output-joined run

-- ---- demand 3: hidden rows stay hidden
-- Over any sequence of openings, label changes, reads, mapped reads and updates by one user, two tables that agree on what that user could ever read
-- give equal answers and agree on it again at the end, and every other row keeps its bytes and its place.
pub hidden-rows : (im : List ℕ) (u : ℕ) (table1 table2 : List ℕ) (width : ℕ) (start : SessionMarks) (calls1 calls2 : List Call)
    → Premises im u table1 table2 width start calls1 calls2 → Claim im u table1 table2 width start calls1 calls2
hidden-rows = isolation.hidden-rows

-- The same of the C functions, whose sessions stand in bytes, whatever the bytes are: equal numbers and equal bytes.
pub c-hidden-rows : (im : List ℕ) (u : ℕ) (table1 table2 : List ℕ) (width : ℕ) (bytes : List ℕ) (calls1 calls2 : List CCall)
    → CPremises im u table1 table2 width bytes calls1 calls2 → CClaim im u table1 table2 width bytes calls1 calls2
c-hidden-rows = functions.c-hidden-rows
