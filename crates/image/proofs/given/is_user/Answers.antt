use Rattle.image.proofs.given.is_user.Goals as goal

pub returns : goal.returns
returns c = rw (← c.name_in.ensures) c.same_name.ensures
