use Rattle.std.proofs.Common.{ne_eqb}
use Rattle.sheet.specs.Format.{role_of}
use Rattle.sheet.proofs.format.RoleFromU16.from.Goals as goal

pub returns-in-1 : goal.returns-in-1
unfolding role_of
returns-in-1 c = rw c.in-1.is

pub returns-in-2 : goal.returns-in-2
unfolding role_of
returns-in-2 c = rw c.in-2.is

pub returns-in-3 : goal.returns-in-3
unfolding role_of
returns-in-3 c = rw c.in-3.is

pub returns-in-4 : goal.returns-in-4
unfolding role_of
returns-in-4 c = rw c.in-4.is

pub returns-in_default : goal.returns-in_default
unfolding role_of
returns-in_default c = simp (
  ne_eqb _ _ c.in_default.in_default-own.rest.1,
  ne_eqb _ _ c.in_default.in_default-own.rest.0.1,
  ne_eqb _ _ c.in_default.in_default-own.rest.0.0.1,
  ne_eqb _ _ c.in_default.in_default-own.rest.0.0.0.1,
)
