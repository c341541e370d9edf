-- Which credentials of a cache stand for tickets.
use Rattle.std.specs.Prelude.{Bool, ◌&&◌, not, List, filter, codes}
use Rattle.std.specs.Str.{bytes_eq}
use Rattle.krb_files.specs.Ccache.{Credential, TypedPrincipal}
use Rattle.krb_files.specs.Config.{is_config, is_first, is_removed}

-- the server of a configuration entry (`is_config` of krb_files)
abbrev pub names_config : TypedPrincipal → Bool
names_config p =
    bytes_eq p.principal.realm (codes "X-CACHECONF:") && is_first (codes "krb5_ccache_conf_data") p.principal.components

-- neither removed nor a configuration entry: what klist shows without -C
abbrev pub is_ticket : Credential → Bool
is_ticket c = not (is_removed c) && not (is_config c)

-- a configuration entry that was not removed
abbrev pub is_configuration : Credential → Bool
is_configuration c = not (is_removed c) && is_config c

-- the tickets of a cache, in their order
abbrev pub tickets_of : List Credential → List Credential
tickets_of credentials = filter is_ticket credentials
