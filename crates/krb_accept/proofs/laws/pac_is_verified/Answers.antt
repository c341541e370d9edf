use Rattle.krb_accept.proofs.TokenLaws.{ignored_pac, no_other_pac, pac_verified}
use Rattle.krb_accept.proofs.laws.pac_is_verified.Goals as goal

pub returns-clause-verified : goal.returns-clause-verified
returns-clause-verified c = λ keys session_keys terms arrival s token seen after d octets p e.
    pac_verified _ _ _ _ keys session_keys terms arrival s token seen after d octets p e

pub returns-clause-no_other : goal.returns-clause-no_other
returns-clause-no_other c = λ keys session_keys terms arrival s token seen after d p. no_other_pac _ _ _ _ keys session_keys terms arrival s token seen after d p

pub returns-clause-ignored : goal.returns-clause-ignored
returns-clause-ignored c = λ keys session_keys terms arrival s token seen after d is p. ignored_pac _ _ _ _ keys session_keys terms arrival s token seen after d is p
