-- Entries of a cache that are no tickets: configuration entries (MIT Kerberos, "Credential cache file format"), and what was removed.
use Rattle.std.specs.Prelude.{ℕ, ◌==◌, Bool, false, ◌&&◌, List, [], ◌∷◌, codes}
use Rattle.std.specs.Str.{bytes_eq}
use Rattle.krb_files.specs.Ccache.{Credential}

-- the first of the components is this one
abbrev pub is_first : List ℕ → List (List ℕ) → Bool
is_first name [] = false
is_first name (x ∷ xs) = bytes_eq x name

-- the server's realm is X-CACHECONF:, and its first component krb5_ccache_conf_data
abbrev pub is_config : Credential → Bool
is_config c = bytes_eq c.server.principal.realm (codes "X-CACHECONF:") && is_first (codes "krb5_ccache_conf_data") c.server.principal.components

-- removed: the authtime is -1, of 32 bits, and the endtime 0 (MIT Kerberos from 1.18 on, src/lib/krb5/ccache/cc_file.c:
-- delete_cred writes this over the entry, and cred_removed tests it)
abbrev pub is_removed : Credential → Bool
is_removed c = c.times.authtime == 4294967295 && c.times.endtime == 0
