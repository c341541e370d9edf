-- Pieces that are joined, as a line.
use Rattle.std.proofs.Common.{◌≡◌, refl, ℕ, List, [], ◌++◌}
use Rattle.std.proofs.lemmas.List.{append-nil, append_assoc}

-- the pieces of an entry's line
pub entry_pieces : (line a b c d e f g h version time principal etype : List ℕ) → line ≡ a ++ (b ++ (c ++ (d ++ (e ++ (f ++ (g ++ (h ++ [])))))))
    → a ≡ version → c ≡ time → e ≡ principal → g ≡ etype → line ≡ version ++ b ++ time ++ d ++ principal ++ f ++ etype ++ h
entry_pieces line a b c d e f g h version time principal etype joined is_version is_time is_principal is_etype =
    rw (joined, is_version, is_time, is_principal, is_etype) (simp (append_assoc {A = ℕ}, append-nil {A = ℕ}) refl)

-- the pieces of start, end and server
pub ticket_pieces : (part a b c d e start expiry server : List ℕ) → part ≡ a ++ (b ++ (c ++ (d ++ (e ++ [])))) → a ≡ start → c ≡ expiry → e ≡ server
    → part ≡ start ++ b ++ expiry ++ d ++ server
ticket_pieces part a b c d e start expiry server joined is_start is_expiry is_server =
    rw (joined, is_start, is_expiry, is_server) (simp (append_assoc {A = ℕ}, append-nil {A = ℕ}) refl)

-- the pieces of what is added
pub added_pieces : (part a b c d client renewal flags etypes : List ℕ) → part ≡ a ++ (b ++ (c ++ (d ++ []))) → a ≡ client → b ≡ renewal → c ≡ flags → d ≡ etypes
    → part ≡ client ++ renewal ++ flags ++ etypes
added_pieces part a b c d client renewal flags etypes joined is_client is_renewal is_flags is_etypes =
    rw (joined, is_client, is_renewal, is_flags, is_etypes) (simp (append_assoc {A = ℕ}, append-nil {A = ℕ}) refl)

-- the pieces of encryption types
pub etype_pieces : (part a b c d session sealed : List ℕ) → part ≡ a ++ (b ++ (c ++ (d ++ []))) → b ≡ session → d ≡ sealed → part ≡ a ++ session ++ c ++ sealed
etype_pieces part a b c d session sealed joined is_session is_sealed = rw (joined, is_session, is_sealed) (simp (append_assoc {A = ℕ}, append-nil {A = ℕ}) refl)
