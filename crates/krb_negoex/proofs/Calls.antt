-- Errors of reading into a vector.
use Rattle.std.proofs.Common.{ℕ, List, Option, inl, inr}
use Rattle.std.specs.declared.io.Error.{Error}
use Rattle.krb_io.specs.Transfer.{IsReadRejected, IsSameError}
use Rattle.krb_io.specs.declared.error.ReadError.{ReadError}
use Rattle.krb_io.specs.declared.error.ReadError.TheVariants as errors
use Rattle.krb_negoex.specs.Devices.{GatherRejected}

pub gather_rejected : (n : ℕ) (a b : Option (List ℕ)) (e : ReadError) (x : Error) → IsSameError e x → IsReadRejected n a b e → GatherRejected n a b x
gather_rejected n a b (errors.Io y) x same why = rw same (inr why)
gather_rejected n a b errors.OutOfMemory x same why = inl same
