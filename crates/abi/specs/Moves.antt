-- The C functions of the moves, and of who holds COMPACCESS: the answer, and the buffer after it.
use Rattle.refusals.specs.Answers.{amount_given}
use Rattle.std.specs.Prelude.{ℕ, List}
use Rattle.moves.specs.Moving.{move_up_of, compaccess_users_of, clear_compaccess_of}
use Rattle.abi.specs.Answers.{coded}

-- ---- `brawnesk_move_up`
abbrev pub move_up_answer : List ℕ → List ℕ → ℕ × List ℕ
move_up_answer im buffer = coded amount_given (move_up_of im buffer)

-- ---- `brawnesk_compaccess_users`
abbrev pub compaccess_users_answer : List ℕ → List ℕ → ℕ × List ℕ
compaccess_users_answer im buffer = coded amount_given (compaccess_users_of im buffer)

-- ---- `brawnesk_clear_compaccess`
abbrev pub clear_compaccess_answer : List ℕ → List ℕ → ℕ × List ℕ
clear_compaccess_answer im buffer = coded amount_given (clear_compaccess_of im buffer)
