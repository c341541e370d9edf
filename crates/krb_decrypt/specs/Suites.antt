-- Suites by number and by name (RFC 3961, 8; RFC 3962, 7; RFC 8009, 7).
use Rattle.std.specs.Prelude.{ℕ, nat_eq, if◌then◌else◌, List, Option, None, Some, is_some, codes}
use Rattle.krb_crypto.specs.declared.cipher_suite.CipherSuite.{CipherSuite}
use Rattle.krb_crypto.specs.declared.cipher_suite.CipherSuite.TheVariants.{Des3CbcSha1Kd, Aes128CtsHmacSha196, Aes256CtsHmacSha196, Aes128CtsHmacSha256128, Aes256CtsHmacSha384192}
use Rattle.krb_input.specs.Words.{after_text}

-- the suite of an encryption type
abbrev pub suite_of_number : ℕ → Option CipherSuite
suite_of_number n =
    if nat_eq n 16 then Some Des3CbcSha1Kd
    else if nat_eq n 17 then Some Aes128CtsHmacSha196
    else if nat_eq n 18 then Some Aes256CtsHmacSha196
    else if nat_eq n 19 then Some Aes128CtsHmacSha256128
    else if nat_eq n 20 then Some Aes256CtsHmacSha384192
    else None

-- the number of a suite and a colon; its name and a colon
abbrev pub number_mark : CipherSuite → List ℕ
number_mark Des3CbcSha1Kd = codes "16:"
number_mark Aes128CtsHmacSha196 = codes "17:"
number_mark Aes256CtsHmacSha196 = codes "18:"
number_mark Aes128CtsHmacSha256128 = codes "19:"
number_mark Aes256CtsHmacSha384192 = codes "20:"

abbrev pub name_mark : CipherSuite → List ℕ
name_mark Des3CbcSha1Kd = codes "des3-cbc-sha1-kd:"
name_mark Aes128CtsHmacSha196 = codes "aes128-cts-hmac-sha1-96:"
name_mark Aes256CtsHmacSha196 = codes "aes256-cts-hmac-sha1-96:"
name_mark Aes128CtsHmacSha256128 = codes "aes128-cts-hmac-sha256-128:"
name_mark Aes256CtsHmacSha384192 = codes "aes256-cts-hmac-sha384-192:"

-- the first of two that is there
abbrev pub first_of : Option (List ℕ) → Option (List ℕ) → Option (List ℕ)
first_of None second = second
first_of (Some digits) second = Some digits

-- what stands behind one of these
abbrev pub digits_of : CipherSuite → List ℕ → Option (List ℕ)
digits_of suite text = first_of (after_text (number_mark suite) text) (after_text (name_mark suite) text)

-- the suite whose number or name and a colon a text begins with
abbrev pub suite_of_text : List ℕ → Option CipherSuite
suite_of_text text =
    if is_some (digits_of Des3CbcSha1Kd text) then Some Des3CbcSha1Kd
    else if is_some (digits_of Aes128CtsHmacSha196 text) then Some Aes128CtsHmacSha196
    else if is_some (digits_of Aes256CtsHmacSha196 text) then Some Aes256CtsHmacSha196
    else if is_some (digits_of Aes128CtsHmacSha256128 text) then Some Aes128CtsHmacSha256128
    else if is_some (digits_of Aes256CtsHmacSha384192 text) then Some Aes256CtsHmacSha384192
    else None
