-- Credentials and the fields of a header: what is read is what is written.
use Rattle.std.proofs.Common.{ℕ, ◌<◌, List, ◌++◌, length, refl, arith}
use Rattle.std.proofs.lemmas.List.{length-append}
use Rattle.byteorder.specs.Endian.{big_bytes}
use Rattle.byteorder.specs.Numbers.{length-bytes_high_first}
use Rattle.krb_files.specs.Alls.{IsSequence}
use Rattle.krb_files.specs.Laws.{IsReading, wide1, wide2, wide4, number_reading, counted_reading, principal_reading as name_reading, followed_reading, seen_reading, typed_reading, typed_some, typed_list_reading, twice_reading}
use Rattle.krb_files.specs.FieldReading.{is_nil, typed_at}
use Rattle.krb_files.specs.FieldWritten.{typed_octets, FitsTyped, FitsNumber, principal_octets as name_octets}
use Rattle.krb_files.specs.Ccache.{TypedPrincipal, Credential, principal_octets, etype_octets, times_octets, credential_octets, FitsPrincipal, FitsTimes, FitsCredential}
use Rattle.krb_files.specs.CcacheReading.{principal_from, principal_at, etype_at, times_from, times_at, CredentialParts, credential_from, credential_at}
use Rattle.krb_files.specs.declared.ccache.credential.Times.{Times}
use Rattle.krb_files.specs.declared.ccache.view.CcacheVersion.{CcacheVersion}
use Rattle.krb_files.specs.declared.ccache.view.CcacheVersion.TheVariants.{Three, Four}

pub principal_reading : IsReading principal_at principal_octets FitsPrincipal
principal_reading =
    seen_reading principal_from (λ (p : TypedPrincipal). (p.name_type, p.principal)) (λ p. refl) (λ p. refl) (followed_reading (number_reading 4 wide4) (name_reading 4 wide4))

etype_reading : (v : CcacheVersion) → IsReading (etype_at v) (etype_octets v) (FitsNumber 2)
etype_reading Three = twice_reading
etype_reading Four = number_reading 2 wide2

times_reading : IsReading times_at times_octets FitsTimes
times_reading =
    seen_reading times_from (λ (t : Times). (t.authtime, (t.starttime, (t.endtime, t.renew_till)))) (λ t. refl) (λ p. refl)
    (followed_reading (number_reading 4 wide4) (followed_reading (number_reading 4 wide4) (followed_reading (number_reading 4 wide4) (number_reading 4 wide4))))

abbrev credential_back : Credential → CredentialParts
credential_back c =
    (c.client, (c.server, (c.etype, (c.key, (c.times, (c.is_skey, (c.flags, (c.addresses, (c.authorization_data, (c.ticket, c.second_ticket))))))))))

pub credential_reading : (v : CcacheVersion) → IsReading (credential_at v) (credential_octets v) FitsCredential
unfolding credential_at
credential_reading v =
    seen_reading credential_from credential_back (λ c. refl) (λ p. refl)
    (followed_reading principal_reading (followed_reading principal_reading (followed_reading (etype_reading v) (followed_reading (counted_reading 4 wide4) (followed_reading times_reading
    (followed_reading (number_reading 1 wide1) (followed_reading (number_reading 4 wide4) (followed_reading typed_list_reading (followed_reading typed_list_reading
    (followed_reading (counted_reading 4 wide4) (counted_reading 4 wide4)))))))))))

front_some : (n : ℕ) (x y : List ℕ) → 0 < length ((big_bytes 4 n ++ x) ++ y)
front_some n x y = omega (arith, length-bytes_high_first 4 n, length-append (big_bytes 4 n) x, length-append (big_bytes 4 n ++ x) y)

credential_some : (v : CcacheVersion) (c : Credential) → 0 < length (credential_octets v c)
credential_some v c = front_some c.client.name_type (name_octets 4 c.client.principal) _

pub credentials : (v : CcacheVersion) → IsSequence is_nil (credential_at v) (credential_octets v) FitsCredential
credentials v = record { element = credential_reading v; some = credential_some v; ends = refl }

pub fields : IsSequence is_nil (typed_at 2) (typed_octets 2) (FitsTyped 2)
fields = record { element = typed_reading 2 wide2; some = typed_some 2; ends = refl }
