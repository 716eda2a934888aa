-- An instance of the claim that hidden rows stay hidden, computed on the sample co-operative: MARA's calls on two tables. Assumes nothing.
use Rattle.std.proofs.Common.{Ok, Err}
use Prim.Native.Nat.{ℕ}
use mathlib.Core.Path.{◌≡◌, refl, sym, ap, ◌∙◌}
use mathlib.Core.Bool.{true, not}
use mathlib.Core.List.{List, [], ◌∷◌, flatten}
use lib.ListN.{replicate}
use Rattle.fields.specs.Bytes.{number2, number4}
use Rattle.refusals.specs.declared.Refusal.TheVariants.{NoUser, RowLabelOutside, TableShape, NoRow, RowNotWritable, SessionRules, WrongMap}
use Rattle.sessions.specs.Session.{session_rights}
use Rattle.sessions.specs.Opening.{session, refused}
use Rattle.rows.specs.Run.{first_rows, run_rows, kept}
use Rattle.rows.specs.Table.{table_run, with_run, rows_of, with_rows, table_changed, readable_rows, table_rule, table_answer}
use Rattle.rows.specs.Reading.{handed_out, read_rows_of}
use Rattle.rows.specs.Updating.{nth_row_answer, table_updated, update_with, update_row_of}
use Rattle.rows.proofs.ByMap.{mapped-plain}
use Rattle.isolation.specs.Calls.{last, other, reading, reading_mapped, updating, Call, opening, setting_label, setting_row_label, on_rows, Answer, opened, label_set, rows_handed, row_done, State, row_step, step, run}
use Rattle.isolation.specs.Claim.{ever_readable, list_at_maximum, own_call, own_calls, started, table_after, Premises, Claim}
use Rattle.isolation.proofs.HiddenRows.{run_step, hidden-rows}
use Rattle.sample.specs.Pieces.{mara as name}
use Rattle.sample.specs.Cooperative.{cooperative}
use Rattle.sample.specs.TwoTables.{row_of, seen, rows1, rows2, table1, table2, vaulted, bare, glazed, too_low, no_session, name_mark, text_vault, text_glaze, text_crew, mara_map, glazed_map, calls}
use Rattle.sample.proofs.Mara.{mara, mara-opens, mara-passes, p10}
use Rattle.sample.proofs.MaraMaps.{mara-right, glazed-right, glazed-wrong}
use Rattle.sample.proofs.MaraReads.{ever, mara-verdicts, vaulted-passes, vaulted-verdicts, glazed-passes, glazed-verdicts, mark-refused, glaze-refused, crew-accepted, glaze-accepted, too-low-refused}

-- ---- the tables' rows
-- the first table after her update
abbrev rows_after1 : List (List ℕ)
rows_after1 = row_of 10 65 66 ∷ row_of 20 1 2 ∷ row_of 30 67 68 ∷ row_of 10 88 89 ∷ row_of 0 3 4 ∷ []

-- and what she could ever read of it
abbrev pub seen_after : List (List ℕ)
seen_after = row_of 10 65 66 ∷ row_of 30 67 68 ∷ row_of 10 88 89 ∷ []

-- what she reads before and after it
abbrev pub bytes_before : List ℕ
bytes_before = 10 ∷ 0 ∷ 0 ∷ 0 ∷ 65 ∷ 66 ∷ 30 ∷ 0 ∷ 0 ∷ 0 ∷ 67 ∷ 68 ∷ 10 ∷ 0 ∷ 0 ∷ 0 ∷ 69 ∷ 70 ∷ []

abbrev pub bytes_after : List ℕ
bytes_after = 10 ∷ 0 ∷ 0 ∷ 0 ∷ 65 ∷ 66 ∷ 30 ∷ 0 ∷ 0 ∷ 0 ∷ 67 ∷ 68 ∷ 10 ∷ 0 ∷ 0 ∷ 0 ∷ 88 ∷ 89 ∷ []

-- and with CREW:GLAZE:NORTH
abbrev pub bytes_now : List ℕ
bytes_now = 30 ∷ 0 ∷ 0 ∷ 0 ∷ 67 ∷ 68 ∷ []

unfoldable table_after1 : List ℕ
table_after1 = flatten rows_after1

rows_before : rows_of table1 6 ≡ rows1
unfolding rows_of run_rows table_run first_rows table1 flatten
rows_before = refl

rows-after : rows_of table_after1 6 ≡ rows_after1
unfolding rows_of run_rows table_run first_rows table_after1 flatten
rows-after = refl

rows-second : rows_of table2 6 ≡ rows2
unfolding rows_of run_rows table_run first_rows table2 flatten
rows-second = refl

list1 : list_at_maximum cooperative 0 table1 6 ≡ seen
unfolding list_at_maximum number4 number2
list1 = rw (rows_before, ever.ever10, ever.never20, ever.ever30, ever.never0)

list-after : list_at_maximum cooperative 0 table_after1 6 ≡ seen_after
unfolding list_at_maximum number4 number2
list-after = rw (rows-after, ever.ever10, ever.never20, ever.ever30, ever.never0)

list2 : list_at_maximum cooperative 0 table2 6 ≡ seen
unfolding list_at_maximum number4 number2
list2 = rw (rows-second, ever.ever10, ever.never20, ever.ever30, ever.never0, ever.never77)

readable-before : readable_rows cooperative (session_rights cooperative mara) table1 6 ≡ seen
unfolding readable_rows number4 number2
readable-before =
    let v = mara-verdicts in
    rw (rows_before, v.reads10, v.hides20, v.reads30, v.hides0)

readable-between : readable_rows cooperative (session_rights cooperative mara) table_after1 6 ≡ seen_after
unfolding readable_rows number4 number2
readable-between =
    let v = mara-verdicts in
    rw (rows-after, v.reads10, v.hides20, v.reads30, v.hides0)

readable-after : readable_rows cooperative (session_rights cooperative vaulted) table_after1 6 ≡ seen_after
unfolding readable_rows number4 number2
readable-after =
    let v = vaulted-verdicts in
    rw (rows-after, v.reads10, v.hides20, v.reads30, v.hides0)

-- with CREW:GLAZE:NORTH the two rows of CREW:KILN:DOCK are not readable now, though they are in the list
readable-now : readable_rows cooperative (session_rights cooperative glazed) table_after1 6 ≡ row_of 30 67 68 ∷ []
unfolding readable_rows number4 number2
readable-now =
    let v = glazed-verdicts in
    rw (rows-after, v.hides10, v.hides20, v.reads30, v.hides0)

-- ---- the first run, call by call
-- a part of it: where it ends, its answers, and that its calls are hers
record Ran (before : State) (todo : List Call) (after : State) (answers : List Answer) : Type 0 where
  ran : run cooperative before todo ≡ (after, answers)
  own : own_calls cooperative 0 before 6 todo ≡ true

done : (state : State) → Ran state [] state []
unfolding run own_calls
done state = record { ran = refl; own = refl }

first-call : (before middle after : State) (call : Call) (todo : List Call) (answer : Answer) (answers : List Answer)
    → own_call 0 before 6 call ≡ true → step cooperative before call ≡ (middle, answer) → Ran middle todo after answers
    → Ran before (call ∷ todo) after (answer ∷ answers)
unfolding own_calls
first-call before middle after call todo answer answers own here later =
    record {
      ran = run_step cooperative before call todo middle answer here ∙ rw later.ran;
      own = rw (own, here, later.own);
    }

opens : step cooperative (started table1 no_session) (opening name) ≡ (started table1 mara, opened (session mara))
unfolding step
opens = rw mara-opens

opens_not : step cooperative (started table1 mara) (opening name_mark) ≡ (started table1 mara, opened (refused NoUser))
unfolding step
opens_not = rw mark-refused

reads : step cooperative (started table1 mara) (on_rows last 6 (reading (replicate 20 1))) ≡ (started table1 mara, rows_handed (Ok 3) bytes_before)
unfolding step row_step read_rows_of handed_out table_answer table_rule table1 flatten
reads = rw (mara-passes, readable-before)

reads-mapped : step cooperative (started table1 mara) (on_rows last 6 (reading_mapped mara_map (replicate 20 1)))
    ≡ (started table1 mara, rows_handed (Ok 3) bytes_before)
unfolding step row_step handed_out table_answer table_rule table1 flatten
reads-mapped = rw (mapped-plain cooperative mara table1 6 mara_map (replicate 20 1), mara-passes, mara-right, readable-before)

updates : step cooperative (started table1 mara) (on_rows last 6 (updating 2 (88 ∷ 89 ∷ []))) ≡ (started table_after1 mara, row_done (Ok tt))
unfolding step row_step update_row_of update_with nth_row_answer table_updated table_changed with_rows with_run table_answer table_rule table1 table_after1 flatten number4 number2
updates =
    let v = mara-verdicts in
    rw (mara-passes, readable-before, rows_before, v.reads10, v.hides20, v.reads30, v.writes10)

updates-not : step cooperative (started table_after1 mara) (on_rows last 6 (updating 1 (88 ∷ 89 ∷ []))) ≡ (started table_after1 mara, row_done (Err RowNotWritable))
unfolding step row_step update_row_of update_with nth_row_answer table_answer table_rule table_after1 flatten number4 number2
updates-not = rw (mara-passes, readable-between, mara-verdicts.writes30)

relabels : step cooperative (started table_after1 mara) (setting_label last text_vault) ≡ (started table_after1 vaulted, label_set vaulted (Ok tt))
unfolding step
relabels = rw p10

relabels-not : step cooperative (started table_after1 vaulted) (setting_label last text_glaze) ≡ (started table_after1 vaulted, label_set vaulted (Err RowLabelOutside))
unfolding step
relabels-not = rw glaze-refused

too-narrow : step cooperative (started table_after1 vaulted) (on_rows last 4 (reading (replicate 20 1))) ≡ (started table_after1 vaulted, rows_handed (Err TableShape) [])
unfolding step row_step read_rows_of table_answer table_rule
too-narrow = rw vaulted-passes

too-low : step cooperative (started table_after1 vaulted) (on_rows (other too_low) 6 (reading (replicate 20 1))) ≡ (started table_after1 vaulted, rows_handed (Err SessionRules) [])
unfolding step row_step read_rows_of table_answer
too-low = rw too-low-refused

reads-again : step cooperative (started table_after1 vaulted) (on_rows last 6 (reading (replicate 20 1))) ≡ (started table_after1 vaulted, rows_handed (Ok 3) bytes_after)
unfolding step row_step read_rows_of handed_out table_answer table_rule table_after1 flatten
reads-again = rw (vaulted-passes, readable-after)

sets-row-label : step cooperative (started table_after1 vaulted) (setting_row_label last text_crew) ≡ (started table_after1 bare, label_set bare (Ok tt))
unfolding step
sets-row-label = rw crew-accepted

relabels-now : step cooperative (started table_after1 bare) (setting_label last text_glaze) ≡ (started table_after1 glazed, label_set glazed (Ok tt))
unfolding step
relabels-now = rw glaze-accepted

reads-less : step cooperative (started table_after1 glazed) (on_rows last 6 (reading (replicate 20 1))) ≡ (started table_after1 glazed, rows_handed (Ok 1) bytes_now)
unfolding step row_step read_rows_of handed_out table_answer table_rule table_after1 flatten
reads-less = rw (glazed-passes, readable-now)

-- the map that she had before she gave KILN up
old-map : step cooperative (started table_after1 glazed) (on_rows last 6 (reading_mapped mara_map (replicate 20 1)))
    ≡ (started table_after1 glazed, rows_handed (Err WrongMap) [])
unfolding step row_step table_answer table_rule table_after1 flatten
old-map = rw (mapped-plain cooperative glazed table_after1 6 mara_map (replicate 20 1), glazed-passes, glazed-wrong)

new-map : step cooperative (started table_after1 glazed) (on_rows last 6 (reading_mapped glazed_map (replicate 20 1)))
    ≡ (started table_after1 glazed, rows_handed (Ok 1) bytes_now)
unfolding step row_step handed_out table_answer table_rule table_after1 flatten
new-map = rw (mapped-plain cooperative glazed table_after1 6 glazed_map (replicate 20 1), glazed-passes, glazed-right, readable-now)

no_row : step cooperative (started table_after1 glazed) (on_rows last 6 (updating 1 (88 ∷ 89 ∷ []))) ≡ (started table_after1 glazed, row_done (Err NoRow))
unfolding step row_step update_row_of update_with nth_row_answer table_answer table_rule table_after1 flatten
no_row = rw (glazed-passes, readable-now)

-- what MARA sees
abbrev pub answers : List Answer
answers =
    opened (session mara)
    ∷ opened (refused NoUser)
    ∷ rows_handed (Ok 3) bytes_before
    ∷ rows_handed (Ok 3) bytes_before
    ∷ row_done (Ok tt)
    ∷ row_done (Err RowNotWritable)
    ∷ label_set vaulted (Ok tt)
    ∷ label_set vaulted (Err RowLabelOutside)
    ∷ rows_handed (Err TableShape) []
    ∷ rows_handed (Err SessionRules) []
    ∷ rows_handed (Ok 3) bytes_after
    ∷ label_set bare (Ok tt)
    ∷ label_set glazed (Ok tt)
    ∷ rows_handed (Ok 1) bytes_now
    ∷ rows_handed (Err WrongMap) []
    ∷ rows_handed (Ok 1) bytes_now
    ∷ row_done (Err NoRow)
    ∷ []

first_run : Ran (started table1 no_session) (calls 1) (started table_after1 glazed) answers
unfolding own_call
first_run =
    first-call _ _ _ _ _ _ _ refl opens
    (first-call _ _ _ _ _ _ _ refl opens_not
    (first-call _ _ _ _ _ _ _ refl reads
    (first-call _ _ _ _ _ _ _ refl reads-mapped
    (first-call _ _ _ _ _ _ _ refl updates
    (first-call _ _ _ _ _ _ _ refl updates-not
    (first-call _ _ _ _ _ _ _ refl relabels
    (first-call _ _ _ _ _ _ _ refl relabels-not
    (first-call _ _ _ _ _ _ _ refl too-narrow
    (first-call _ _ _ _ _ _ _ refl too-low
    (first-call _ _ _ _ _ _ _ refl reads-again
    (first-call _ _ _ _ _ _ _ refl sets-row-label
    (first-call _ _ _ _ _ _ _ refl relabels-now
    (first-call _ _ _ _ _ _ _ refl reads-less
    (first-call _ _ _ _ _ _ _ refl old-map
    (first-call _ _ _ _ _ _ _ refl new-map
    (first-call _ _ _ _ _ _ _ refl no_row
    (done _)))))))))))))))))

-- ---- what is hidden
-- the rows of a table that she could never read
abbrev pub hidden_in : List ℕ → List (List ℕ)
hidden_in table = kept (λ r. not (ever_readable cooperative 0 r)) (rows_of table 6)

pub hidden1 : hidden_in table1 ≡ row_of 20 1 2 ∷ row_of 0 3 4 ∷ []
unfolding number4 number2
hidden1 = rw (rows_before, ever.ever10, ever.never20, ever.ever30, ever.never0)

pub hidden2 : hidden_in table2 ≡ row_of 77 9 9 ∷ row_of 20 7 8 ∷ row_of 0 5 6 ∷ row_of 20 5 6 ∷ []
unfolding number4 number2
hidden2 = rw (rows-second, ever.ever10, ever.never20, ever.ever30, ever.never0, ever.never77)

-- ---- the instance
-- the image is well-formed (Sample: sample-accepted); MARA is user 0 (Mara: mara-opens) and has neither READ nor FULL (MaraReads: no-privileges)
pub premises : Premises cooperative 0 table1 table2 6 no_session (calls 1) (calls 255)
premises =
    record {
      table1-accepted = unfold table_rule table1 flatten in refl;
      table2-accepted = unfold table_rule table2 flatten in refl;
      lists-equal = list1 ∙ sym list2;
      calls-own = first_run.own;
      calls-alike = refl;
    }

-- what the theorem gives
pub instance : Claim cooperative 0 table1 table2 6 no_session (calls 1) (calls 255)
instance = hidden-rows cooperative 0 table1 table2 6 no_session (calls 1) (calls 255) premises

-- the first run's answers are computed ..
pub first-answers : (run cooperative (started table1 no_session) (calls 1)).1 ≡ answers
first-answers = ap (λ (r : State × List Answer). r.1) first_run.ran

-- .. and so those of the second are known without computing it
pub second-answers : (run cooperative (started table2 no_session) (calls 255)).1 ≡ answers
second-answers = sym instance.answers-equal ∙ first-answers

-- what she could ever read of the second table then, likewise
first-table : table_after cooperative table1 no_session (calls 1) ≡ table_after1
first-table = ap (λ (r : State × List Answer). r.0.table) first_run.ran

pub second-list : list_at_maximum cooperative 0 (table_after cooperative table2 no_session (calls 255)) 6 ≡ seen_after
second-list = sym instance.final-lists-equal ∙ ap (λ (table : List ℕ). list_at_maximum cooperative 0 table 6) first-table ∙ list-after
