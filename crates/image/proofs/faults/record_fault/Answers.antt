use Rattle.image.proofs.faults.record_fault.Goals as goal

pub returns-in-Component : goal.returns-in-Component
returns-in-Component c = rw c.in-Component.is

pub returns-in-Label : goal.returns-in-Label
returns-in-Label c = rw c.in-Label.is

pub returns-in-User : goal.returns-in-User
returns-in-User c = rw c.in-User.is
