-- What a reader has given and a writer has taken before an error.
use Rattle.std.specs.Prelude.{◌≡◌, ℕ, ◌⊎◌, List, take, drop, Option, Some, IfSome}
use Rattle.std.specs.Io.KnownBytes.{Appends, Keeps}
use Rattle.std.specs.declared.io.Error.{Error}
use Rattle.krb_io.specs.Transfer.{IsNotInterrupted, IsPrefixWritten, IsShortRead}
use Rattle.krb_negoex.specs.Rejected.{IsMemory, LayRejected}

-- an allocation failed, or the reader did before it gave n octets
abbrev pub GatherRejected : ℕ → Option (List ℕ) → Option (List ℕ) → Error → Type 0
GatherRejected n old new x = IsMemory x ⊎ (IsNotInterrupted x × IsShortRead n old new)

-- the reader's next octets, as many as a fixed part has or all that there were, were read, and have this error
abbrev pub PrefixRejected : ℕ → (List ℕ → Error → Type 0) → Option (List ℕ) → Option (List ℕ) → Error → Type 0
PrefixRejected n rejects old new x = (f : List ℕ) × rejects f x × IfSome old (λ b. (f ≡ take n b) × (new ≡ Some (drop n b)))

-- a value can not be laid and nothing was written; or it can, and the writer took a proper prefix of its octets
abbrev pub EncodeRejected : Type 0 → List ℕ → Option (List ℕ) → Option (List ℕ) → Error → Type 0
EncodeRejected laid octets old new x = (LayRejected laid x × Keeps old new) ⊎ (laid × IsNotInterrupted x × IsPrefixWritten octets old new)

-- one writer took a proper prefix of the fixed part, and the other nothing; or one took it all, and the other a proper prefix of
-- the payload
abbrev pub PartsStopped : List ℕ → List ℕ → Option (List ℕ) → Option (List ℕ) → Option (List ℕ) → Option (List ℕ) → Type 0
PartsStopped fixed payload old new payload_old payload_new =
    (IsPrefixWritten fixed old new × Keeps payload_old payload_new) ⊎ (Appends old new fixed × IsPrefixWritten payload payload_old payload_new)

-- an error made of one of which this holds
abbrev pub IsReportedBy : {E : Type 0} → (Error → E → Type 0) → (Error → Type 0) → E → Type 0
IsReportedBy gives P e = (x : Error) × gives x e × P x
