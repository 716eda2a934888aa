-- The report in parts, each of whole lines: what is left of its text at a cursor, and what a run of parts writes.
use Rattle.std.specs.Prelude.{ℕ, zero, suc, ◌+◌, ◌-◌, ◌*◌, ◌≤◌, ◌<◌, ◌≡◌, List, [], ◌∷◌, ◌++◌, length, take}
use Rattle.std.specs.Prelude.{Option, Some, None, IsSome}
use Rattle.buffers.specs.Pasting.{Written}
use Rattle.header.specs.Layout.{users, labels}
use Rattle.hierarchy.specs.Below.{Tabled}
use Rattle.image.specs.Check.{IsAccepted}
use Rattle.access.specs.Rights.{Rights}
use Rattle.sessions.specs.Session.{session_rights}
use Rattle.sessions.specs.Opening.{default_session}
use Rattle.lines.specs.declared.parts.Cursor.{Cursor}
use Rattle.lines.specs.declared.parts.Part.{Part}
use Rattle.lines.specs.Lines.{lines_from, users_from, output_of}

-- ---- what is left
-- the user's lines from the k-th label record on
unfoldable pub user_rest : List ℕ → ℕ → ℕ → List ℕ
user_rest im u k = lines_from im u (labels im - k) k

-- the lines of the n users from u on, those of the first from the k-th label record on
unfoldable pub rest_from : List ℕ → ℕ → ℕ → ℕ → List ℕ
rest_from im zero u k = []
rest_from im (suc n) u k = user_rest im u k ++ users_from im n (suc u)

-- the lines from a cursor on
unfoldable pub rest_of : List ℕ → Cursor → List ℕ
rest_of im c = rest_from im (users im - c.user) c.user c.label

-- the cursor of the first line
abbrev pub start : Cursor
start = record { user = 0; label = 0 }

-- what is left at the line to go on with: nothing where there is none
abbrev pub rest_at : List ℕ → Option Cursor → List ℕ
rest_at im None = []
rest_at im (Some c) = rest_of im c

-- what is left after a part: nothing after the last
abbrev pub rest_after : List ℕ → Part → List ℕ
rest_after im p = rest_at im p.next

-- ---- what a part is
-- a part of a text: its bytes stand at the buffer's front, and joined with what is left after it they are the text
pub record PartOf (im text after : List ℕ) (p : Part) : Type 0 where
  pub inside : p.length ≤ length after
  pub joined : take p.length after ++ rest_after im p ≡ text

-- how many lines and ends of users are left at most: at a cursor, before the line to go on with, and after a part
unfoldable pub steps_at : List ℕ → Cursor → ℕ
steps_at im c = (users im - c.user) * suc (labels im) + (labels im - c.label)

abbrev pub steps_to : List ℕ → Option Cursor → ℕ
steps_to im None = 0
steps_to im (Some c) = suc (steps_at im c)

abbrev pub steps_after : List ℕ → Part → ℕ
steps_after im p = steps_to im p.next

-- the part from a cursor on; where a line has room, fewer steps are left after it
pub record NextPart (im : List ℕ) (from : Cursor) (buffer after : List ℕ) (p : Part) : Type 0 where
  pub part : PartOf im (rest_of im from) after p
  pub fewer : 43 ≤ length buffer → steps_after im p ≤ steps_at im from

-- the first part of an image's output; only where the image is accepted are there more
pub record FirstPart (im table after : List ℕ) (p : Part) : Type 0 where
  pub part : PartOf im (output_of im) after p
  pub going : IsSome p.next → IsAccepted im × Tabled im table

-- the whole output of every input that has more bytes than an image may have
pub record LongOutput (after : List ℕ) (end : ℕ) : Type 0 where
  pub inside : end ≤ length after
  pub whole : (im : List ℕ) → 65536 < length im → take end after ≡ output_of im

-- what is written by a run of parts, each from where the one before it left off, up to the last
pub data PartsOf (im : List ℕ) : List ℕ → List (List ℕ) → Type 0 where
  last : {text after : List ℕ} {p : Part} → PartOf im text after p → p.next ≡ None → PartsOf im text (take p.length after ∷ [])
  and_then : {text after : List ℕ} {p : Part} {from : Cursor} {parts : List (List ℕ)} → PartOf im text after p → p.next ≡ Some from
      → PartsOf im (rest_of im from) parts → PartsOf im text (take p.length after ∷ parts)

-- ---- what the code fills a buffer with
-- what code may take for granted of an accepted image, a user's place and that user's rights at the opened session
pub record AtOpening (im : List ℕ) (u : ℕ) (rights : Rights) : Type 0 where
  pub accepted : IsAccepted im
  pub user : u < users im
  pub view : rights ≡ session_rights im (default_session im u)

-- what is told with a refusal's number is written, and is at most 31 bytes
pub record Told (buffer : List ℕ) (at : ℕ) (text after : List ℕ) (end : ℕ) : Type 0 where
  pub written : Written buffer at text after end
  pub short : end ≤ at + 31

-- the user's lines from the k-th label record up to `next` stand at the buffer's front: at least one, where there is one and it has
-- room
pub record FilledFrom (im : List ℕ) (u k : ℕ) (buffer after : List ℕ) (next end : ℕ) : Type 0 where
  pub from : k ≤ next
  pub inside : end ≤ length after
  pub joined : take end after ++ user_rest im u next ≡ user_rest im u k
  pub some : k < labels im → 43 ≤ length buffer → k < next
