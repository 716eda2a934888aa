-- Hidden rows stay hidden over a whole sequence of calls. Assumes nothing.
use Prim.Native.Nat.{ℕ}
use mathlib.Core.Path.{◌≡◌, refl, sym, ap, ◌∙◌, subst}
use mathlib.Core.Bool.{true}
use mathlib.Core.List.{List, [], ◌∷◌}
use Rattle.fields.proofs.Both.{both_left, both_right}
use Rattle.sessions.specs.Session.{SessionMarks}
use Rattle.isolation.specs.Calls.{Call, Answer, State, step, run}
use Rattle.isolation.specs.Claim.{own_call, own_calls, list_at_maximum, HiddenKept, Claim, HiddenRows, started, table_after}
use Rattle.rows.proofs.Giving.{shape-accepted}
use Rattle.isolation.proofs.Agree.{Paired}
use Rattle.isolation.proofs.Alike.{kept_refl, kept_trans}
use Rattle.isolation.proofs.Next.{next}
use Rattle.isolation.proofs.Buffers.{runs-equal}

-- the table that a run leaves
abbrev table_in : State × List Answer → List ℕ
table_in r = r.0.table

-- a run by its first step
pub run_step : (im : List ℕ) (state : State) (call : Call) (calls : List Call) (after : State) (answer : Answer)
    → step im state call ≡ (after, answer) → run im state (call ∷ calls) ≡ ((run im after calls).0, answer ∷ (run im after calls).1)
unfolding run
run_step im state call calls after answer e = rw e

module _ (im : List ℕ) (u width : ℕ) where
  -- one sequence on two tables
  same-calls : (calls : List Call) (table1 table2 : List ℕ) → Paired im u table1 table2 width → (s : SessionMarks)
      → own_calls im u (started table1 s) width calls ≡ true → Claim im u table1 table2 width s calls calls
  unfolding own_calls
  same-calls [] table1 table2 pair s e =
      unfold run in
      record {
        answers-equal = refl;
        final-lists-equal = pair.lists;
        hidden-kept1 = kept_refl im u width table1;
        hidden-kept2 = kept_refl im u width table2;
      }
  same-calls (call ∷ calls) table1 table2 pair s e =
      let before = started table1 s in
      let here = both_left (own_call u before width call) (own_calls im u (step im before call).0 width calls) e in
      let rest = both_right (own_call u before width call) (own_calls im u (step im before call).0 width calls) e in
      let n = next im u table1 table2 width pair s call here in
      let own = subst (λ (x : State × Answer). own_calls im u x.0 width calls ≡ true) n.step1 rest in
      let later = same-calls calls n.after1 n.after2 n.pair n.session own in
      let run1 = run_step im (started table1 s) call calls (started n.after1 n.session) n.answer n.step1 in
      let run2 = run_step im (started table2 s) call calls (started n.after2 n.session) n.answer n.step2 in
      let end1 : table_after im table1 s (call ∷ calls) ≡ table_after im n.after1 n.session calls = ap table_in run1 in
      let end2 : table_after im table2 s (call ∷ calls) ≡ table_after im n.after2 n.session calls = ap table_in run2 in
      let list : List ℕ → List (List ℕ) = λ (table : List ℕ). list_at_maximum im u table width in
      record {
        answers-equal = rw (run1, run2, later.answers-equal);
        final-lists-equal = ap list end1 ∙ later.final-lists-equal ∙ sym (ap list end2);
        hidden-kept1 =
            subst (λ (t : List ℕ). HiddenKept im u table1 t width) (sym end1) (kept_trans im u width _ _ _ n.kept1 later.hidden-kept1);
        hidden-kept2 =
            subst (λ (t : List ℕ). HiddenKept im u table2 t width) (sym end2) (kept_trans im u width _ _ _ n.kept2 later.hidden-kept2);
      }

-- the two sequences differ in what the reads' buffers held before, and so give equal runs
pub hidden-rows : HiddenRows
hidden-rows im u table1 table2 width start calls1 calls2 p =
    let same = same-calls im u width calls1 table1 table2 pair start p.calls-own in
    let equal = runs-equal im calls1 calls2 p.calls-alike (started table2 start) in
    record {
      answers-equal = rw (← equal) same.answers-equal;
      final-lists-equal = same.final-lists-equal ∙ ap (λ (r : State × List Answer). list_at_maximum im u (table_in r) width) equal;
      hidden-kept1 = same.hidden-kept1;
      hidden-kept2 = subst (λ (r : State × List Answer). HiddenKept im u table2 (table_in r) width) equal same.hidden-kept2;
    }
  where
    pair : Paired im u table1 table2 width
    pair =
        record {
          first = shape-accepted table1 width p.table1-accepted;
          second = shape-accepted table2 width p.table2-accepted;
          lists = p.lists-equal;
        }
