-- What one read of the input tells.
use Rattle.std.specs.Prelude.{Bool, true, false, ℕ, cond, eqb, Option, Some, None, Result, Ok, Err}
use Rattle.std.specs.IoError.{error_kind}
use Rattle.std.specs.declared.io.Error.{Error}
use Rattle.std.specs.declared.io.ErrorKind.{ErrorKind}
use Rattle.std.specs.declared.io.ErrorKind.TheVariants.{Interrupted}

-- whether a signal interrupted what failed with an error of this kind
abbrev is_interrupted : ErrorKind → Bool
is_interrupted Interrupted = true
is_interrupted _ = false

-- by whether it moved bytes, the input ended or a signal interrupted it: a read that a signal interrupted adds nothing,
-- and any other read that failed is a failure, not the end
abbrev pub step_after : Result ℕ Error → Result (Option ℕ) Error
step_after (Ok moved) = Ok (cond (eqb moved 0) None (Some moved))
step_after (Err error) = cond (is_interrupted (error_kind error)) (Ok (Some 0)) (Err error)
