use mathlib.Core.Path.{sym, ◌∙◌}
use Rattle.image.proofs.Accepted.{accepted-counted}
use Rattle.printing.proofs.Answered.{answer-lacks, answer-room, answer-done}
use Rattle.printing.proofs.writing.print_accepted.Goals as goal

pub label_exists-requires : goal.label_exists-requires
label_exists-requires c = accepted-counted _ c.requires

pub returns-then-not-label_exists : goal.returns-then-not-label_exists
returns-then-not-label_exists c = answer-lacks _ _ _ (sym c.label_exists.ensures ∙ c.if-not-label_exists.true)

pub text_length-requires : goal.text_length-requires
text_length-requires c = (c.requires, sym c.label_exists.ensures ∙ c.if-not-label_exists.false)

pub returns-then-buffer-text_length : goal.returns-then-buffer-text_length
returns-then-buffer-text_length c =
    answer-room _ _ _ (sym c.label_exists.ensures ∙ c.if-not-label_exists.false)
    (rw (← c.text_length.ensures) c.if-buffer-text_length.true)

pub write_text-requires : goal.write_text-requires
write_text-requires c =
    record {
      accepted = (c.requires, sym c.label_exists.ensures ∙ c.if-not-label_exists.false);
      label_in_bounds = rw (← c.text_length.ensures) c.if-buffer-text_length.false;
    }

pub returns : goal.returns
returns c =
    answer-done _ _ _ (sym c.label_exists.ensures ∙ c.if-not-label_exists.false)
    (rw (← c.text_length.ensures) c.if-buffer-text_length.false)
    c.write_text.ensures
