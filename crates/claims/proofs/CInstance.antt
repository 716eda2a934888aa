-- An instance of the claim of the C functions: MARA's calls on the sample's two tables, her sessions in bytes. Assumes nothing.
use Prim.Native.Nat.{ℕ, ◌^◌, ◌≤◌, ◌<◌}
use mathlib.Core.Path.{◌≡◌, refl, ap, ◌∙◌}
use mathlib.Core.List.{List, [], ◌∷◌, map}
use native.Mathlib.Omega.{arith}
use native.Mathlib.Nat.{lt_of_lt_of_le}
use lib.ListN.{replicate}
use lib.Pow.{pow_mono}
use Rattle.sets.specs.Groups.{width}
use Rattle.refusals.specs.declared.Refusal.TheVariants.{NoUser, RowLabelOutside, TableShape, NoRow, RowNotWritable, SessionRules, WrongMap}
use Rattle.refusals.specs.Answers.{answer_of}
use Rattle.sessions.specs.Session.{SessionMarks}
use Rattle.encoding.specs.Sessions.{session_bytes, SessionPartsFit}
use Rattle.encoding.proofs.ReadBack.{bytes-hold}
use Rattle.isolation.specs.Calls.{Call, run}
use Rattle.isolation.specs.Claim.{started}
use Rattle.sample.specs.Pieces.{mara}
use Rattle.labels.specs.Label.{marks}
use Rattle.sample.specs.Cooperative.{cooperative}
use Rattle.sample.specs.TwoTables.{no_session, too_low, name_mark, text_vault, text_glaze, text_crew, mara_map, glazed_map, calls, table1, table2}
use Rattle.sample.proofs.HiddenInstance.{premises, second-answers}
use Rattle.claims.specs.CFunctions.{last_bytes, other_bytes, CCall, c_open, c_set_label, c_set_row_label, c_read, c_read_mapped, c_update}
use Rattle.claims.specs.CFunctions.{c_started, c_run, CPremises, CClaim}
use Rattle.claims.proofs.Held.{held_as, holds-held}
use Rattle.claims.proofs.CFunctions.{valued, own-valued, seen_all, run-simulated, c-hidden-rows}

-- the bytes before any session is returned, and those of a session that 19 refuses
abbrev none_held : List ℕ
none_held = session_bytes no_session

abbrev low_held : List ℕ
low_held = session_bytes too_low

-- her calls, for two sequences that differ in what the bytes for an opening's session and the reads' buffers held before
abbrev c_calls : ℕ → List CCall
c_calls byte =
    c_open (replicate 104 byte) mara
    ∷ c_open (replicate 104 byte) name_mark
    ∷ c_read last_bytes 6 (replicate 20 byte)
    ∷ c_read_mapped last_bytes 6 mara_map (replicate 20 byte)
    ∷ c_update last_bytes 6 2 (88 ∷ 89 ∷ [])
    ∷ c_update last_bytes 6 1 (88 ∷ 89 ∷ [])
    ∷ c_set_label last_bytes text_vault
    ∷ c_set_label last_bytes text_glaze
    ∷ c_read last_bytes 4 (replicate 20 byte)
    ∷ c_read (other_bytes low_held) 6 (replicate 20 byte)
    ∷ c_read last_bytes 6 (replicate 20 byte)
    ∷ c_set_row_label last_bytes text_crew
    ∷ c_set_label last_bytes text_glaze
    ∷ c_read last_bytes 6 (replicate 20 byte)
    ∷ c_read_mapped last_bytes 6 mara_map (replicate 20 byte)
    ∷ c_read_mapped last_bytes 6 glazed_map (replicate 20 byte)
    ∷ c_update last_bytes 6 1 (88 ∷ 89 ∷ [])
    ∷ []

-- a session of small numbers fits its bytes
small-set : (g : ℕ) → g < 10 → g < 2 ^ width
small-set g h =
    let low : g < 2 ^ 4 = omega arith in
    let wide : 2 ^ 4 ≤ 2 ^ width = pow_mono {i = 4} {j = width} (omega arith) in
    lt_of_lt_of_le low wide

small-fits : (u l c g : ℕ) → u < 10 → l < 10 → c < 10 → g < 10 → SessionPartsFit (record { user = u; label = marks 0 0 0; row = marks l c g })
small-fits u l c g hu hl hc hg =
    record {
      user = omega arith;
      label = record { level = omega arith; compartments = omega arith; groups = small-set 0 (omega arith) };
      row = record { level = omega arith; compartments = omega arith; groups = small-set g hg };
    }

none-held : held_as none_held ≡ no_session
none-held = holds-held none_held no_session (bytes-hold no_session (small-fits 9 0 0 0 (omega arith) (omega arith) (omega arith) (omega arith)))

low_held_lem : held_as low_held ≡ too_low
low_held_lem = holds-held low_held too_low (bytes-hold too_low (small-fits 0 1 1 4 (omega arith) (omega arith) (omega arith) (omega arith)))

-- by value they are the sample's calls
calls-valued : (byte : ℕ) → map valued (c_calls byte) ≡ calls byte
calls-valued byte = rw low_held_lem

pub c-premises : CPremises cooperative 0 table1 table2 6 none_held (c_calls 1) (c_calls 255)
c-premises =
    record {
      table1-accepted = premises.table1-accepted;
      table2-accepted = premises.table2-accepted;
      lists-equal = premises.lists-equal;
      calls-own = own-valued cooperative 0 6 (c_calls 1) (c_started table1 none_held) ∙ rw (calls-valued 1, none-held) premises.calls-own;
      calls-alike = refl;
    }

-- what the theorem gives
pub c-instance : CClaim cooperative 0 table1 table2 6 none_held (c_calls 1) (c_calls 255)
c-instance = c-hidden-rows cooperative 0 table1 table2 6 none_held (c_calls 1) (c_calls 255) c-premises

-- the numbers that she sees on the second table, known from the answers by value on the first
pub second-numbers : map (λ (seen : ℕ × List ℕ). seen.0) (c_run cooperative (c_started table2 none_held) (c_calls 255)).1
    ≡ 0 ∷ answer_of NoUser ∷ 3 ∷ 3 ∷ 0 ∷ answer_of RowNotWritable ∷ 0 ∷ answer_of RowLabelOutside ∷ answer_of TableShape ∷ answer_of SessionRules ∷ 3 ∷ 0 ∷ 0 ∷ 1
    ∷ answer_of WrongMap ∷ 1 ∷ answer_of NoRow ∷ []
unfolding seen_all
second-numbers =
    let ran = run-simulated cooperative (c_calls 255) (c_started table2 none_held) in
    ap (map (λ (seen : ℕ × List ℕ). seen.0))
    (ran.seen
    ∙ ap (λ (s : SessionMarks). seen_all none_held (c_calls 255) (run cooperative (started table2 s) (map valued (c_calls 255))).1) none-held
    ∙ ap (λ (todo : List Call). seen_all none_held (c_calls 255) (run cooperative (started table2 no_session) todo).1) (calls-valued 255)
    ∙ ap (seen_all none_held (c_calls 255)) second-answers)
