-- Request R-4: the answers of `make_map` and `judge_map`, and the lent buffer after the first.
use Rattle.std.specs.Prelude.{ℕ, List, Ok, Err}
use Rattle.refusals.specs.declared.Refusal.TheVariants.{WrongMap}
use Rattle.refusals.specs.Answers.{on_checked, or_refuse, Amount, Checked}
use Rattle.buffers.specs.Filling.{unfilled, written_to}
use Rattle.access.specs.Rights.{Rights}
use Rattle.sessions.specs.Session.{SessionMarks, lent_answer, session_rights}
use Rattle.maps.specs.Map.{map_of, map_rule}

-- ---- `make_map`: 1, 2, 31 to 35, 19, then 13
unfoldable pub make_map_of : List ℕ → SessionMarks → List ℕ → Amount × List ℕ
make_map_of im s buffer = on_checked (lent_answer im s) (unfilled buffer) (written_to buffer (map_of im (session_rights im s)))

-- ---- `judge_map`: 1, 2, 31 to 35, 19, then 20
-- 20 for a wrong map or map length
abbrev pub map_answer : List ℕ → Rights → List ℕ → Checked
map_answer im rights bits = or_refuse (map_rule im rights bits) WrongMap (Ok tt)

unfoldable pub judge_map_of : List ℕ → SessionMarks → List ℕ → Checked
judge_map_of im s bits = on_checked (lent_answer im s) Err (map_answer im (session_rights im s) bits)
