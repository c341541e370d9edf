use Rattle.std.proofs.Common.{◌≡◌, map, take}
use Rattle.krb_files.specs.CcacheWritten.{credential_from}
use Rattle.krb_file_tools.proofs.convert.kirbi.parts_of.Given as goal

-- the credentials so far
abbrev pub invariant-loop-credential : goal.invariant-loop-credential
invariant-loop-credential l = map credential_from l.parts.items ≡ take l.credential-index l.credentials
