-- What lists of values keep.
use Rattle.std.proofs.Common.{All, ℕ, zero, suc, ◌<◌, ◌^◌, List, [], ◌∷◌, ℤ, arith}
use Rattle.std.specs.Prelude.{map, slice_index}
use Rattle.std.specs.List.{AllByRecursion}
use Rattle.krb_der_x509.specs.ObjectIdentifier.{IsArcs}
use Rattle.krb_build.specs.Mechanisms.{arcs, every}
use Rattle.krb_build.specs.declared.mechanisms.Mechanism.{Mechanism}
use Rattle.krb_build.specs.declared.mechanisms.Mechanism.TheVariants.{Kerberos, UserToUser, MsKerberos, Ntlmssp, Negoex, Iakerb, Pku2u, Spnego}

pub all_integers : (integers : List ℤ) → AllByRecursion (λ (z : ℤ). Unit {0}) integers
all_integers [] = tt
all_integers (z ∷ zs) = (tt, all_integers zs)

below : (xs : List ℕ) → AllByRecursion (λ (a : ℕ). a < 2 ^ 64) xs → (i : ℕ) → slice_index xs i < 2 ^ 64
below [] h i = omega arith
below (x ∷ xs) h zero = h.0
below (x ∷ xs) h (suc i) = below xs h.1 i

pub are_arcs : (m : Mechanism) → IsArcs (arcs m)
are_arcs Kerberos = record { some = omega arith; root = omega arith; second = λ h. omega arith; first = omega arith; each = below (arcs Kerberos) (omega arith, (omega arith, (omega arith, (omega arith, (omega arith, (omega arith, (omega arith, tt))))))) }
are_arcs UserToUser = record { some = omega arith; root = omega arith; second = λ h. omega arith; first = omega arith; each = below (arcs UserToUser) (omega arith, (omega arith, (omega arith, (omega arith, (omega arith, (omega arith, (omega arith, (omega arith, tt)))))))) }
are_arcs MsKerberos = record { some = omega arith; root = omega arith; second = λ h. omega arith; first = omega arith; each = below (arcs MsKerberos) (omega arith, (omega arith, (omega arith, (omega arith, (omega arith, (omega arith, (omega arith, tt))))))) }
are_arcs Ntlmssp = record { some = omega arith; root = omega arith; second = λ h. omega arith; first = omega arith; each = below (arcs Ntlmssp) (omega arith, (omega arith, (omega arith, (omega arith, (omega arith, (omega arith, (omega arith, (omega arith, (omega arith, (omega arith, tt)))))))))) }
are_arcs Negoex = record { some = omega arith; root = omega arith; second = λ h. omega arith; first = omega arith; each = below (arcs Negoex) (omega arith, (omega arith, (omega arith, (omega arith, (omega arith, (omega arith, (omega arith, (omega arith, (omega arith, (omega arith, tt)))))))))) }
are_arcs Iakerb = record { some = omega arith; root = omega arith; second = λ h. omega arith; first = omega arith; each = below (arcs Iakerb) (omega arith, (omega arith, (omega arith, (omega arith, (omega arith, (omega arith, (omega arith, tt))))))) }
are_arcs Pku2u = record { some = omega arith; root = omega arith; second = λ h. omega arith; first = omega arith; each = below (arcs Pku2u) (omega arith, (omega arith, (omega arith, (omega arith, (omega arith, (omega arith, (omega arith, tt))))))) }
are_arcs Spnego = record { some = omega arith; root = omega arith; second = λ h. omega arith; first = omega arith; each = below (arcs Spnego) (omega arith, (omega arith, (omega arith, (omega arith, (omega arith, (omega arith, (omega arith, tt))))))) }

pub all_arcs : (mechanisms : List Mechanism) → AllByRecursion IsArcs (map arcs mechanisms)
all_arcs [] = tt
all_arcs (m ∷ ms) = (are_arcs m, all_arcs ms)

-- what holds of each mechanism of the list holds of all mechanisms
pub every_mechanism : (P : Mechanism → Type 0) → All P every → (m : Mechanism) → P m
every_mechanism P h Kerberos = h 0 Kerberos (omega arith)
every_mechanism P h UserToUser = h 1 Kerberos (omega arith)
every_mechanism P h MsKerberos = h 2 Kerberos (omega arith)
every_mechanism P h Ntlmssp = h 3 Kerberos (omega arith)
every_mechanism P h Negoex = h 4 Kerberos (omega arith)
every_mechanism P h Iakerb = h 5 Kerberos (omega arith)
every_mechanism P h Pku2u = h 6 Kerberos (omega arith)
every_mechanism P h Spnego = h 7 Kerberos (omega arith)
