use Rattle.krb_crypto_message.specs.Sealed.{IsSealedDes3}
use Rattle.krb_crypto_message.proofs.Opening.{opened_as, not_of_none}
use Rattle.krb_crypto_message.proofs.laws.des3_opens_what_was_sealed.Goals as goal

pub returns-clause-opened : goal.returns-clause-opened
returns-clause-opened c = λ key usage confounder payload octets opened size sealed opens. opened_as 8 (IsSealedDes3 key usage) 8 confounder payload octets opened size sealed opens

pub returns-clause-kept : goal.returns-clause-kept
returns-clause-kept c = λ key usage confounder payload octets size sealed. not_of_none (IsSealedDes3 key usage) 8 confounder payload octets size sealed
