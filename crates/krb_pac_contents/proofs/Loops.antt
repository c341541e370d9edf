-- One step of a loop over elements or identifiers, and its end.
use Rattle.std.proofs.Common.{◌≡◌, ℕ, suc, List, drop, Ok, Err, refl}
use Rattle.krb_pac_contents.specs.declared.error.LogonError.{LogonError}
use Rattle.krb_pac_contents.specs.Steps.{Read}
use Rattle.krb_pac_contents.specs.Fixed.{needed_pointer_of}
use Rattle.krb_pac_contents.specs.Sid.{sid_of}
use Rattle.krb_pac_contents.specs.Referents.{element_pointers_of, after_sids}

pub element_read : (k n : ℕ) (u : Unit {0}) (b : List ℕ) → k ≡ suc n → needed_pointer_of b 0 ≡ Ok u
    → element_pointers_of k b ≡ element_pointers_of n (drop 8 b)
unfolding element_pointers_of
element_read k n u b e h = rw (e, h) refl

pub element_refused : (k n : ℕ) (x : LogonError) (b : List ℕ) → k ≡ suc n → needed_pointer_of b 0 ≡ Err x
    → element_pointers_of k b ≡ Err x
unfolding element_pointers_of
element_refused k n x b e h = rw (e, h) refl

pub elements_end : (k : ℕ) (b : List ℕ) → k ≡ 0 → element_pointers_of k b ≡ Ok tt
unfolding element_pointers_of
elements_end k b e = rw e refl

pub sid_read : (k n : ℕ) (s : Read) (b : List ℕ) → k ≡ suc n → sid_of b ≡ Ok s → after_sids k b ≡ after_sids n s.rest
unfolding after_sids
sid_read k n s b e h = rw (e, h) refl

pub sid_refused : (k n : ℕ) (x : LogonError) (b : List ℕ) → k ≡ suc n → sid_of b ≡ Err x → after_sids k b ≡ Err x
unfolding after_sids
sid_refused k n x b e h = rw (e, h) refl

pub sids_end : (k : ℕ) (b : List ℕ) → k ≡ 0 → after_sids k b ≡ Ok b
unfolding after_sids
sids_end k b e = rw e refl
