use Rattle.krb_crypto_message.specs.AesSha2.{IsSealedSha2}
use Rattle.krb_crypto_message.proofs.Messages.{unfilled}
use Rattle.krb_crypto_message.proofs.Opening.{opened_as, not_of_none}
use Rattle.krb_crypto_message.proofs.laws.sha2_opens_what_was_sealed.Goals as goal

pub returns-clause-opened : goal.returns-clause-opened
returns-clause-opened c = λ size key usage confounder payload octets opened long sealed opens.
    unfilled payload opened (opened_as 1 (IsSealedSha2 size key usage) 16 confounder payload octets opened long sealed opens)

pub returns-clause-kept : goal.returns-clause-kept
returns-clause-kept c = λ size key usage confounder payload octets long sealed. not_of_none (IsSealedSha2 size key usage) 16 confounder payload octets long sealed
