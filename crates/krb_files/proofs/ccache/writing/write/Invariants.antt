use Rattle.std.proofs.Common.{◌≡◌, ◌++◌, take, map, All}
use Rattle.std.specs.List.{flat_map}
use Rattle.krb_files.specs.Ccache.{credential_octets, FitsCredential}
use Rattle.krb_files.specs.CcacheWritten.{ccache_from, credential_from, head_octets}
use Rattle.krb_files.proofs.ccache.writing.write.Given as goal

abbrev pub invariant-credentials : goal.invariant-credentials
invariant-credentials l =
    (l.out.items ≡ head_octets (ccache_from l.cache) ++ flat_map (credential_octets l.cache.version) (map credential_from (take l.credential-index l.cache.credentials.now)))
    × All (λ c. FitsCredential (credential_from c)) (take l.credential-index l.cache.credentials.now)
