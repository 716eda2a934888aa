-- Hidden rows stay hidden from who calls the C functions: each call does what the call by value does on the session that the bytes lent stand
-- for (Held.antt), and what the caller sees is determined by its answer and by the bytes lent. Assumes nothing.
use Rattle.std.proofs.Common.{Ok, Err}
use Prim.Native.Nat.{ℕ, ◌*◌, ◌^◌}
use mathlib.Core.Path.{◌≡◌, refl, sym, ap, ◌∙◌, subst}
use mathlib.Core.Bool.{Bool, true, cond, ◌&&◌}
use mathlib.Core.List.{List, [], ◌∷◌, map}
use native.Mathlib.Omega.{arith}
use lib.Dec.{eqb, ltb}
use lib.ListN.{take}
use borrow.Author.Tests.{le-ltb}
use Rattle.refusals.specs.declared.Refusal.{Refusal}
use Rattle.refusals.specs.Answers.{checked_given, code_of, answer_of, Amount, amount_given}
use Rattle.sessions.specs.Session.{SessionMarks}
use Rattle.sessions.specs.Opening.{Opening, session, refused, open_of}
use Rattle.sessions.specs.Changes.{set_label_of, set_row_label_of}
use Rattle.rows.specs.Reading.{read_rows_of}
use Rattle.rows.specs.Mapped.{read_mapped_of}
use Rattle.rows.specs.Updating.{update_row_of}
use Rattle.encoding.specs.Sessions.{changed_into}
use Rattle.abi.specs.Sessions.{opened_given, opened_into, open_answer}
use Rattle.abi.proofs.InBytes.{open-holds}
use Rattle.isolation.specs.Calls.{LentAs, last, other, Call, opening, setting_label, setting_row_label, on_rows, reading, reading_mapped, updating}
use Rattle.isolation.specs.Calls.{lent_session, session_after, bytes_read, row_step, step, run}
use Rattle.isolation.specs.Calls.{Answer, opened, label_set, rows_handed, row_done, State}
use Rattle.isolation.specs.Claim.{buffer_zeroed, started, own_width, own_call, own_calls, list_at_maximum, Premises, HiddenKept}
use Rattle.isolation.proofs.HiddenRows.{run_step, hidden-rows}
use Rattle.claims.specs.CFunctions.{BytesLent, last_bytes, other_bytes, CCall, c_open, c_set_label, c_set_row_label, c_read, c_read_mapped, c_update, CState, c_started}
use Rattle.claims.specs.CFunctions.{bytes_lent, when_done, bytes_handed, c_step, c_run, c_own_call, c_own_calls, c_buffer_zeroed, CHiddenRows}
use Rattle.claims.proofs.Held.{held_as, held-user, holds-held, read_as, read-mapped-as, update-as, set-label-as, set-label-left, set-row-label-as, set-row-label-left}
use Rattle.claims.proofs.Held.{refusal-handed, opened-handed, opened-held}

-- ---- the calls by value
abbrev pub lent_valued : BytesLent → LentAs
lent_valued last_bytes = last
lent_valued (other_bytes bytes) = other (held_as bytes)

abbrev pub valued : CCall → Call
valued (c_open old name) = opening name
valued (c_set_label lent text) = setting_label (lent_valued lent) text
valued (c_set_row_label lent text) = setting_row_label (lent_valued lent) text
valued (c_read lent width buffer) = on_rows (lent_valued lent) width (reading buffer)
valued (c_read_mapped lent width bits buffer) = on_rows (lent_valued lent) width (reading_mapped bits buffer)
valued (c_update lent width n payload) = on_rows (lent_valued lent) width (updating n payload)

-- and what stands between two of them
abbrev pub state_valued : CState → State
state_valued state = started state.table (held_as state.bytes)

lent-valued : (state : CState) (lent : BytesLent) → lent_session (state_valued state) (lent_valued lent) ≡ held_as (bytes_lent state.bytes lent)
lent-valued state last_bytes = refl
lent-valued state (other_bytes bytes) = refl

-- ---- what a caller sees, by the answer of the call by value
-- the bytes that are lent to a call; those of an opening are not looked at
abbrev lent_to : List ℕ → CCall → List ℕ
lent_to lately (c_open old name) = []
lent_to lately (c_set_label lent text) = bytes_lent lately lent
lent_to lately (c_set_row_label lent text) = bytes_lent lately lent
lent_to lately (c_read lent width buffer) = bytes_lent lately lent
lent_to lately (c_read_mapped lent width bits buffer) = bytes_lent lately lent
lent_to lately (c_update lent width n payload) = bytes_lent lately lent

-- the number and the bytes, of a call that was lent those bytes
abbrev pub seen_of : List ℕ → Answer → ℕ × List ℕ
seen_of bytes (opened answer) = (code_of (opened_given answer), opened_into answer [])
seen_of bytes (label_set s answer) = changed_into s answer bytes
seen_of bytes (rows_handed answer out) = (code_of (amount_given answer), when_done (code_of (amount_given answer)) out [])
seen_of bytes (row_done answer) = (code_of (checked_given answer), [])

-- the last bytes after a call, by those before it and those lent to it
abbrev pub last_after : List ℕ → List ℕ → Answer → List ℕ
last_after lately bytes (opened answer) = opened_into answer lately
last_after lately bytes (label_set s answer) = (changed_into s answer bytes).1
last_after lately bytes (rows_handed answer out) = lately
last_after lately bytes (row_done answer) = lately

-- over a sequence, by its answers
unfoldable pub seen_all : List ℕ → List CCall → List Answer → List (ℕ × List ℕ)
seen_all lately [] answers = []
seen_all lately (call ∷ calls) [] = []
seen_all lately (call ∷ calls) (answer ∷ answers) =
    seen_of (lent_to lately call) answer ∷ seen_all (last_after lately (lent_to lately call) answer) calls answers

-- ---- one call
-- what it leaves and what is seen, beside the step by value
pub record Simulated (im : List ℕ) (state : CState) (call : CCall) : Type 0 where
  pub answer : Answer
  pub by_value : step im (state_valued state) (valued call) ≡ (state_valued (c_step im state call).0, answer)
  pub bytes : (c_step im state call).0.bytes ≡ last_after state.bytes (lent_to state.bytes call) answer
  pub seen : (c_step im state call).1 ≡ seen_of (lent_to state.bytes call) answer

-- the bytes that a read hands out by its number are those that it hands out by its answer
rows_seen : (width : ℕ) (answer : Amount) (buffer : List ℕ)
    → ◌≡◌ {A = ℕ × List ℕ} (code_of (amount_given answer), bytes_handed (code_of (amount_given answer)) width buffer)
    (seen_of [] (rows_handed answer (bytes_read answer width buffer)))
rows_seen width (Ok count) buffer = refl
rows_seen width (Err r) buffer = rw (refusal-handed r (take (answer_of r * width) buffer) [], refusal-handed r [] [])

module _ (im : List ℕ) (state : CState) where
  pub step-simulated : (call : CCall) → Simulated im state call
  unfolding step row_step c_step
  step-simulated (c_open old name) =
      let after = opened-handed (open_of im name) old state.bytes in
      record {
        answer = opened (open_of im name);
        by_value =
            ap (λ (s : SessionMarks). (started state.table s, opened (open_of im name)))
            (sym (ap held_as after ∙ opened-held im name state.bytes));
        bytes = after;
        seen = ap (λ (b : List ℕ). (code_of (opened_given (open_of im name)), b)) (opened-handed (open_of im name) old []);
      }
  step-simulated (c_set_label lent text) =
      let bytes = bytes_lent state.bytes lent in
      let new = set_label_of im (held_as bytes) text in
      record {
        answer = label_set new.0 new.1;
        by_value =
            ap (λ (s : SessionMarks). let r = set_label_of im s text in (started state.table r.0, label_set r.0 r.1)) (lent-valued state lent)
            ∙ ap (λ (s : SessionMarks). (started state.table s, label_set new.0 new.1)) (sym (set-label-left im bytes text));
        bytes = ap (λ (p : ℕ × List ℕ). p.1) (set-label-as im bytes text);
        seen = set-label-as im bytes text;
      }
  step-simulated (c_set_row_label lent text) =
      let bytes = bytes_lent state.bytes lent in
      let new = set_row_label_of im (held_as bytes) text in
      record {
        answer = label_set new.0 new.1;
        by_value =
            ap (λ (s : SessionMarks). let r = set_row_label_of im s text in (started state.table r.0, label_set r.0 r.1)) (lent-valued state lent)
            ∙ ap (λ (s : SessionMarks). (started state.table s, label_set new.0 new.1)) (sym (set-row-label-left im bytes text));
        bytes = ap (λ (p : ℕ × List ℕ). p.1) (set-row-label-as im bytes text);
        seen = set-row-label-as im bytes text;
      }
  step-simulated (c_read lent width buffer) =
      let result = read_rows_of im (held_as (bytes_lent state.bytes lent)) state.table width buffer in
      let after = read_as im (bytes_lent state.bytes lent) state.table width buffer in
      record {
        answer = rows_handed result.0 (bytes_read result.0 width result.1);
        by_value =
            ap
            (λ (s : SessionMarks).
            let r = read_rows_of im s state.table width buffer in (state_valued state, rows_handed r.0 (bytes_read r.0 width r.1)))
            (lent-valued state lent);
        bytes = refl;
        seen = ap (λ (p : ℕ × List ℕ). (p.0, bytes_handed p.0 width p.1)) after ∙ rows_seen width result.0 result.1;
      }
  step-simulated (c_read_mapped lent width bits buffer) =
      let result = read_mapped_of im (held_as (bytes_lent state.bytes lent)) state.table width bits buffer in
      let after = read-mapped-as im (bytes_lent state.bytes lent) state.table width bits buffer in
      record {
        answer = rows_handed result.0 (bytes_read result.0 width result.1);
        by_value =
            ap
            (λ (s : SessionMarks).
            let r = read_mapped_of im s state.table width bits buffer in (state_valued state, rows_handed r.0 (bytes_read r.0 width r.1)))
            (lent-valued state lent);
        bytes = refl;
        seen = ap (λ (p : ℕ × List ℕ). (p.0, bytes_handed p.0 width p.1)) after ∙ rows_seen width result.0 result.1;
      }
  step-simulated (c_update lent width n payload) =
      let result = update_row_of im (held_as (bytes_lent state.bytes lent)) state.table width n payload in
      let after = update-as im (bytes_lent state.bytes lent) state.table width n payload in
      record {
        answer = row_done result.0;
        by_value =
            ap
            (λ (s : SessionMarks).
            let r = update_row_of im s state.table width n payload in (started r.1 (held_as state.bytes), row_done r.0))
            (lent-valued state lent)
            ∙ ap (λ (p : ℕ × List ℕ). (started p.1 (held_as state.bytes), row_done result.0)) (sym after);
        bytes = refl;
        seen = ap (λ (p : ℕ × List ℕ). (p.0, [])) after;
      }

-- ---- a sequence
-- what it leaves, and all that is seen, beside the run by value
pub record RunSimulated (im : List ℕ) (state : CState) (calls : List CCall) : Type 0 where
  pub end : (run im (state_valued state) (map valued calls)).0 ≡ state_valued (c_run im state calls).0
  pub seen : (c_run im state calls).1 ≡ seen_all state.bytes calls (run im (state_valued state) (map valued calls)).1

pub run-simulated : (im : List ℕ) (calls : List CCall) (state : CState) → RunSimulated im state calls
unfolding run c_run seen_all
run-simulated im [] state = record { end = refl; seen = refl }
run-simulated im (call ∷ calls) state =
    let first = step-simulated im state call in
    let after = (c_step im state call).0 in
    let rest = run-simulated im calls after in
    let value = run_step im (state_valued state) (valued call) (map valued calls) (state_valued after) first.answer first.by_value in
    let answers = ap (λ (r : State × List Answer). r.1) value in
    let later = (run im (state_valued after) (map valued calls)).1 in
    record {
      end = ap (λ (r : State × List Answer). r.0) value ∙ rest.end;
      seen =
          ap (λ (shown : ℕ × List ℕ). shown ∷ (c_run im after calls).1) first.seen
          ∙ ap (λ (shown : List (ℕ × List ℕ)). seen_of (lent_to state.bytes call) first.answer ∷ shown)
          (rest.seen ∙ ap (λ (lately : List ℕ). seen_all lately calls later) first.bytes)
          ∙ sym (ap (seen_all state.bytes (call ∷ calls)) answers);
    }

-- the calls are that user's by value too
pub own-valued : (im : List ℕ) (u width : ℕ) (calls : List CCall) (state : CState)
    → c_own_calls im u state width calls ≡ own_calls im u (state_valued state) width (map valued calls)
unfolding c_own_calls own_calls c_own_call own_call
own-valued im u width [] state = refl
own-valued im u width (call ∷ calls) state =
    let next = ap (λ (r : State × Answer). own_calls im u r.0 width (map valued calls)) (step-simulated im state call).by_value in
    rw (same call, own-valued im u width calls (c_step im state call).0, next)
  where
    user : (lent : BytesLent) → eqb (held_as (bytes_lent state.bytes lent)).user u ≡ eqb (lent_session (state_valued state) (lent_valued lent)).user u
    user lent = ap (λ (s : SessionMarks). eqb s.user u) (sym (lent-valued state lent))

    same : (c : CCall) → c_own_call u state width c ≡ own_call u (state_valued state) width (valued c)
    same (c_open old name) = refl
    same (c_set_label lent text) = ap (λ (k : ℕ). eqb k u) (sym (held-user (bytes_lent state.bytes lent))) ∙ user lent
    same (c_set_row_label lent text) = ap (λ (k : ℕ). eqb k u) (sym (held-user (bytes_lent state.bytes lent))) ∙ user lent
    same (c_read lent named buffer) =
        ap (λ (b : Bool). b && own_width width named) (ap (λ (k : ℕ). eqb k u) (sym (held-user (bytes_lent state.bytes lent))) ∙ user lent)
    same (c_read_mapped lent named bits buffer) =
        ap (λ (b : Bool). b && own_width width named) (ap (λ (k : ℕ). eqb k u) (sym (held-user (bytes_lent state.bytes lent))) ∙ user lent)
    same (c_update lent named n payload) =
        ap (λ (b : Bool). b && own_width width named) (ap (λ (k : ℕ). eqb k u) (sym (held-user (bytes_lent state.bytes lent))) ∙ user lent)

-- ---- two sequences that are alike
-- the openings' bytes and the reads' buffers do not show in what is seen
seen-zeroed : (calls : List CCall) (lately : List ℕ) (answers : List Answer)
    → seen_all lately calls answers ≡ seen_all lately (map c_buffer_zeroed calls) answers
unfolding seen_all
seen-zeroed [] lately answers = refl
seen-zeroed (call ∷ calls) lately [] = refl
seen-zeroed (call ∷ calls) lately (answer ∷ answers) =
    rw (lent-zeroed call, seen-zeroed calls (last_after lately (lent_to lately (c_buffer_zeroed call)) answer) answers)
  where
    lent-zeroed : (c : CCall) → lent_to lately c ≡ lent_to lately (c_buffer_zeroed c)
    lent-zeroed (c_open old name) = refl
    lent-zeroed (c_set_label lent text) = refl
    lent-zeroed (c_set_row_label lent text) = refl
    lent-zeroed (c_read lent width buffer) = refl
    lent-zeroed (c_read_mapped lent width bits buffer) = refl
    lent-zeroed (c_update lent width n payload) = refl

-- by value they are alike too
valued-zeroed : (calls : List CCall) → map buffer_zeroed (map valued calls) ≡ map valued (map c_buffer_zeroed calls)
valued-zeroed [] = refl
valued-zeroed (call ∷ calls) = rw (same call, valued-zeroed calls)
  where
    same : (c : CCall) → buffer_zeroed (valued c) ≡ valued (c_buffer_zeroed c)
    same (c_open old name) = refl
    same (c_set_label lent text) = refl
    same (c_set_row_label lent text) = refl
    same (c_read lent width buffer) = refl
    same (c_read_mapped lent width bits buffer) = refl
    same (c_update lent width n payload) = refl

-- ---- hidden rows stay hidden
pub c-hidden-rows : CHiddenRows
c-hidden-rows im u table1 table2 width bytes calls1 calls2 p =
    let s = held_as bytes in
    let first = run-simulated im calls1 (c_started table1 bytes) in
    let second = run-simulated im calls2 (c_started table2 bytes) in
    let claim = hidden-rows im u table1 table2 width s (map valued calls1) (map valued calls2) by_value in
    let answers = (run im (started table2 s) (map valued calls2)).1 in
    let table1-after = ap (λ (x : State). x.table) first.end in
    let table2-after = ap (λ (x : State). x.table) second.end in
    let list : List ℕ → List (List ℕ) = λ (table : List ℕ). list_at_maximum im u table width in
    record {
      seen-equal =
          first.seen
          ∙ ap (seen_all bytes calls1) claim.answers-equal
          ∙ seen-zeroed calls1 bytes answers
          ∙ ap (λ (calls : List CCall). seen_all bytes calls answers) p.calls-alike
          ∙ sym (seen-zeroed calls2 bytes answers)
          ∙ sym second.seen;
      final-lists-equal = sym (ap list table1-after) ∙ claim.final-lists-equal ∙ ap list table2-after;
      hidden-kept1 = subst (λ (t : List ℕ). HiddenKept im u table1 t width) table1-after claim.hidden-kept1;
      hidden-kept2 = subst (λ (t : List ℕ). HiddenKept im u table2 t width) table2-after claim.hidden-kept2;
    }
  where
    by_value : Premises im u table1 table2 width (held_as bytes) (map valued calls1) (map valued calls2)
    by_value =
        record {
          table1-accepted = p.table1-accepted;
          table2-accepted = p.table2-accepted;
          lists-equal = p.lists-equal;
          calls-own = sym (own-valued im u width calls1 (c_started table1 bytes)) ∙ p.calls-own;
          calls-alike = valued-zeroed calls1 ∙ ap (map valued) p.calls-alike ∙ sym (valued-zeroed calls2);
        }
