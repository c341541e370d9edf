-- Octets that were appended one after the other.
use Rattle.std.proofs.Common.{◌≡◌, ℕ, List, [], ◌++◌, refl, ◌∙◌, append_assoc}
use Rattle.krb_files.specs.FieldWritten.{counted_octets}

pub seven : (a b c d e f g r0 r1 r2 r3 r4 r5 r6 r7 : List ℕ) → r0 ≡ [] → r1 ≡ r0 ++ a → r2 ≡ r1 ++ b → r3 ≡ r2 ++ c → r4 ≡ r3 ++ d → r5 ≡ r4 ++ e → r6 ≡ r5 ++ f
    → r7 ≡ r6 ++ g → r7 ≡ (a ++ (b ++ (c ++ (d ++ (e ++ f))))) ++ g
seven a b c d e f g r0 r1 r2 r3 r4 r5 r6 r7 h0 h1 h2 h3 h4 h5 h6 h7 = rw (h7, h6, h5, h4, h3, h2, h1, h0) (simp append_assoc)

pub counted_alone : (n : ℕ) (old new deref body x : List ℕ) → old ≡ [] → deref ≡ body → body ≡ x → new ≡ old ++ counted_octets n deref → new ≡ counted_octets n x
counted_alone n old new deref body x o d b h = h ∙ rw (o, d, b) refl
