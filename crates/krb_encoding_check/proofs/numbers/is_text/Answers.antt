use Rattle.std.proofs.Common.{arith}
use Rattle.std.proofs.lemmas.Str.{IsUtf8-from_ascii}
use Rattle.krb_encoding_check.proofs.numbers.is_text.Goals as goal

pub returns-in-Err : goal.returns-in-Err
returns-in-Err c = λ v ascii same. grind (arith, IsUtf8-from_ascii v ascii)
