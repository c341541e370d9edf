use Rattle.krb_crypto_message.proofs.DesLaws.{length-random_to_key, odd_key, strong_key}
use Rattle.krb_crypto_message.proofs.laws.des3_keys_are_sound.Goals as goal

pub returns-clause-size : goal.returns-clause-size
returns-clause-size c = length-random_to_key

pub returns-clause-odd : goal.returns-clause-odd
returns-clause-odd c = odd_key

pub returns-clause-strong : goal.returns-clause-strong
returns-clause-strong c = strong_key
