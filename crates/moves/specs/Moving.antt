-- The answers of `move_up`, `compaccess_users` and `clear_compaccess`, and the lent buffer after each.
use Rattle.std.specs.Prelude.{ℕ, Bool, true, false, cond, ◌&&◌, List, eqb, leb, length, Err}
use Rattle.refusals.specs.declared.Refusal.TheVariants.{ImageLayout, CompaccessHolders, MoveLimits}
use Rattle.refusals.specs.Answers.{on_checked, Amount, Checked}
use Rattle.buffers.specs.Filling.{unfilled, written_to}
use Rattle.blocks.specs.Blocks.{length_rule, block_count, first_bad_block}
use Rattle.header.specs.declared.edition.Edition.{Edition}
use Rattle.header.specs.declared.edition.Edition.TheVariants.{One, Two}
use Rattle.header.specs.Layout.{edition_of, users, labels}
use Rattle.header.specs.Limits.{limits_in}
use Rattle.image.specs.Check.{check_of}
use Rattle.moves.specs.declared.target.Move.TheVariants.{Up, Clear}
use Rattle.moves.specs.Moved.{new_image}
use Rattle.moves.specs.Holders.{holders}

-- ---- calls that take an image of edition 1 only
abbrev pub is_two : Edition → Bool
is_two One = false
is_two Two = true

-- an image of edition 2 that neither 1 nor 2 refuses
unfoldable pub framed_two : List ℕ → Bool
framed_two im = length_rule im && is_two (edition_of im) && eqb (first_bad_block im) (block_count im)

-- 1 and 2; 31 for edition 2, as for a header fault; then 31 to 35
unfoldable pub old_check_of : List ℕ → Checked
old_check_of im = cond (framed_two im) (Err ImageLayout) (check_of im)

-- ---- `move_up`
-- edition 2 has room for the labels and the users
unfoldable pub move_limits_rule : List ℕ → Bool
move_limits_rule im = leb (labels im) (limits_in Two).labels && leb (users im) (limits_in Two).users

-- 37, then 36 with the number of those who hold COMPACCESS, then 13
abbrev pub move_accepted : List ℕ → List ℕ → Amount × List ℕ
move_accepted im buffer =
    let count = length (holders im) in
    cond (move_limits_rule im)
    (cond (eqb count 0) (written_to buffer (new_image Up im)) (unfilled buffer (CompaccessHolders count)))
    (unfilled buffer MoveLimits)

unfoldable pub move_up_of : List ℕ → List ℕ → Amount × List ℕ
move_up_of im buffer = on_checked (old_check_of im) (unfilled buffer) (move_accepted im buffer)

-- ---- `compaccess_users`: their places, one byte each
unfoldable pub compaccess_users_of : List ℕ → List ℕ → Amount × List ℕ
compaccess_users_of im buffer = on_checked (old_check_of im) (unfilled buffer) (written_to buffer (holders im))

-- ---- `clear_compaccess`
unfoldable pub clear_compaccess_of : List ℕ → List ℕ → Amount × List ℕ
clear_compaccess_of im buffer = on_checked (old_check_of im) (unfilled buffer) (written_to buffer (new_image Clear im))
