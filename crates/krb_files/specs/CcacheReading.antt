-- What is read of a credential cache, from left to right: its value, or the first error.
use Rattle.std.specs.Prelude.{ℕ, ◌==◌, List, [], length, Result, Ok, Err, if◌then◌else◌}
use Rattle.krb_files.specs.declared.fields.error.FieldError.{FieldError}
use Rattle.krb_files.specs.FieldReading.{◌>>=◌, Principal, principal_at as name_at, number_at, counted_at, twice_at, Typed, typed_at, typed_list_at, followed_at, seen_at, is_nil, all_at, shown_all}
use Rattle.krb_files.specs.Ccache.{TypedPrincipal, Credential, Ccache}
use Rattle.krb_files.specs.declared.ccache.credential.Times.{Times}
use Rattle.krb_files.specs.declared.ccache.error.CcacheError.{CcacheError}
use Rattle.krb_files.specs.declared.ccache.error.CcacheError.TheVariants.{InvalidVersion, InvalidField}
use Rattle.krb_files.specs.declared.ccache.view.CcacheVersion.{CcacheVersion}
use Rattle.krb_files.specs.declared.ccache.view.CcacheVersion.TheVariants.{Three, Four}

abbrev pub principal_from : ℕ × Principal → TypedPrincipal
principal_from p = record { name_type = p.0; principal = p.1 }

-- name type, and then how many components there are, realm and components
abbrev pub principal_at : List ℕ → Result (TypedPrincipal × List ℕ) FieldError
principal_at = seen_at principal_from (followed_at (number_at 4) (name_at 4))

-- an encryption type, which stands twice in version 3
abbrev pub etype_at : CcacheVersion → List ℕ → Result (ℕ × List ℕ) FieldError
etype_at Three = twice_at
etype_at Four = number_at 2

abbrev pub times_from : ℕ × (ℕ × (ℕ × ℕ)) → Times
times_from p = record { authtime = p.0; starttime = p.1.0; endtime = p.1.1.0; renew_till = p.1.1.1 }

abbrev pub times_at : List ℕ → Result (Times × List ℕ) FieldError
times_at = seen_at times_from (followed_at (number_at 4) (followed_at (number_at 4) (followed_at (number_at 4) (number_at 4))))

-- the fields of a credential as pairs
abbrev pub CredentialParts : Type 0
CredentialParts = TypedPrincipal × (TypedPrincipal × (ℕ × (List ℕ × (Times × (ℕ × (ℕ × (List Typed × (List Typed × (List ℕ × List ℕ)))))))))

abbrev pub credential_from : CredentialParts → Credential
credential_from p = record {
  client = p.0;
  server = p.1.0;
  etype = p.1.1.0;
  key = p.1.1.1.0;
  times = p.1.1.1.1.0;
  is_skey = p.1.1.1.1.1.0;
  flags = p.1.1.1.1.1.1.0;
  addresses = p.1.1.1.1.1.1.1.0;
  authorization_data = p.1.1.1.1.1.1.1.1.0;
  ticket = p.1.1.1.1.1.1.1.1.1.0;
  second_ticket = p.1.1.1.1.1.1.1.1.1.1;
}

unfoldable pub credential_at : CcacheVersion → List ℕ → Result (Credential × List ℕ) FieldError
credential_at v =
    seen_at credential_from (followed_at principal_at (followed_at principal_at (followed_at (etype_at v) (followed_at (counted_at 4) (followed_at times_at (followed_at (number_at 1)
    (followed_at (number_at 4) (followed_at typed_list_at (followed_at typed_list_at (followed_at (counted_at 4) (counted_at 4)))))))))))

-- all fields of a header, and all credentials, up to the end
abbrev pub fields_of : List ℕ → Result (List Typed) FieldError
fields_of b = all_at is_nil (typed_at 2) (length b) b

abbrev pub credentials_of : CcacheVersion → List ℕ → Result (List Credential) FieldError
credentials_of v b = all_at is_nil (credential_at v) (length b) b

-- the same, up to the first error
abbrev pub shown_fields : List ℕ → List Typed
shown_fields b = shown_all is_nil (typed_at 2) (length b) b

abbrev pub shown_credentials : CcacheVersion → List ℕ → List Credential
shown_credentials v b = shown_all is_nil (credential_at v) (length b) b

-- the fields of the header, which version 3 has not
unfoldable pub header_at : CcacheVersion → List ℕ → Result (List Typed × List ℕ) FieldError
header_at Three b = Ok ([], b)
header_at Four b = counted_at 2 b >>= λ h. fields_of h.0 >>= λ fields. Ok (fields, h.1)

-- what follows the version
unfoldable pub rest_of : CcacheVersion → List ℕ → Result Ccache FieldError
rest_of v b = do
  header ← header_at v b
  principal ← principal_at header.1
  credentials ← credentials_of v principal.1
  Ok (record { version = v; header = header.0; principal = principal.0; credentials = credentials })

abbrev pub in_field : {A : Type 0} → Result A FieldError → Result A CcacheError
in_field (Ok x) = Ok x
in_field (Err e) = Err (InvalidField e)

-- the version, and what follows it
unfoldable pub ccache_of : List ℕ → Result Ccache CcacheError
ccache_of b = in_field (number_at 2 b) >>= λ v.
    if v.0 == 0x0503 then in_field (rest_of Three v.1) else (if v.0 == 0x0504 then in_field (rest_of Four v.1) else Err (InvalidVersion v.0))
