use Rattle.krb_crypto_message.specs.Sealed.{IsSealedAes}
use Rattle.krb_crypto_message.proofs.Messages.{unfilled}
use Rattle.krb_crypto_message.proofs.Opening.{opened_as, not_of_none}
use Rattle.krb_crypto_message.proofs.laws.aes_opens_what_was_sealed.Goals as goal

pub returns-clause-opened : goal.returns-clause-opened
returns-clause-opened c = λ key usage confounder payload octets opened size sealed opens. unfilled payload opened (opened_as 1 (IsSealedAes key usage) 16 confounder payload octets opened size sealed opens)

pub returns-clause-kept : goal.returns-clause-kept
returns-clause-kept c = λ key usage confounder payload octets size sealed. not_of_none (IsSealedAes key usage) 16 confounder payload octets size sealed
