-- What is told of octets that are no DER.
use Rattle.std.specs.Prelude.{◌≡◌, List, ℕ, [], Vec, Result, IfOk, IfErr, MatchResult, codes}
use Rattle.std.specs.declared.alloc.Global.{Global}
use Rattle.krb_files.specs.Ccache.{Ccache, CcacheIs}
use Rattle.krb_files.specs.Entry.{Entry}
use Rattle.krb_files.specs.Keytab.{KeytabIs}
use Rattle.krb_pac.specs.Numbered.{NumberedBuffer, NumberedPacIs, NumberedPacRejected}
use Rattle.krb_pac.specs.declared.error.PacError.{PacError}
use Rattle.krb_pac.specs.declared.error.PacError.TheVariants as pac_errors
use Rattle.krb_show.specs.Tokens.{plain, Token}
use Rattle.krb_show_pages.specs.Files.{IsNoCcache, IsNoKeytab, ShowsAs, ccache_of, keytab_of}
use Rattle.krb_show_pages.specs.declared.files.error.FilePageError.{FilePageError}
use Rattle.krb_show_pages.specs.declared.files.error.FilePageError.TheVariants as file_errors
use Rattle.krb_show_messages.specs.Pac.{directory_of}
use Rattle.krb_show_any.specs.declared.error.PageError.{PageError}
use Rattle.krb_show_any.specs.declared.error.PageError.TheVariants as page_errors
use Rattle.krb_show.specs.Tree.{IsTreePage}

-- Any octets have a page as a tree of elements (X.690, 8.1), but for want of memory.
abbrev pub IsTreeTold : List ℕ → Result (Vec Token Global) PageError → Type 0
IsTreeTold octets result = MatchResult result (λ page. IsTreePage octets page.items) (λ e. e ≡ page_errors.OutOfMemory)

-- A PAC (MS-PAC, 2.3): where a page is answered it is that of the PAC that the octets are; where they are a PAC it is answered, but for want
-- of memory; and else they are refused as by `NumberedPacView::new`.
pub record IsPacTold (octets : List ℕ) (result : Result (Vec Token Global) PacError) : Type 0 where
  pub found : IfOk result (λ page. (pac : List NumberedBuffer) × NumberedPacIs octets pac × directory_of (plain (codes "PAC")) octets pac [] page.items)
  pub reads : (pac : List NumberedBuffer) → NumberedPacIs octets pac → MatchResult result (λ page. Unit {0}) (λ e. e ≡ pac_errors.OutOfMemory)
  pub rejected : IfErr result (NumberedPacRejected octets)

-- A keytab (MIT Kerberos, "Keytab file format"): where a page is answered it is that of the entries of the keytab that the octets are; where they
-- are a keytab it is answered, but for want of memory; and else they are refused as by `KeytabView::new`.
pub record IsKeytabTold (octets : List ℕ) (result : Result (Vec Token Global) FilePageError) : Type 0 where
  pub found : IfOk result (λ page. (entries : List Entry) × KeytabIs octets entries × keytab_of (plain (codes "keytab")) entries [] page.items)
  pub reads : (entries : List Entry) → KeytabIs octets entries → MatchResult result (λ page. Unit {0}) (λ e. e ≡ file_errors.OutOfMemory)
  pub rejected : IfErr result (IsNoKeytab octets)

-- A credential cache (MIT Kerberos, "Credential cache file format"), likewise, by how octets in a ticket's place are shown; else they are refused as
-- by `CcacheView::new`.
pub record IsCcacheTold (ticket : ShowsAs (List ℕ)) (octets : List ℕ) (result : Result (Vec Token Global) FilePageError) : Type 0 where
  pub found : IfOk result (λ page. (cache : Ccache) × CcacheIs octets cache × ccache_of ticket (plain (codes "ccache")) cache [] page.items)
  pub reads : (cache : Ccache) → CcacheIs octets cache → MatchResult result (λ page. Unit {0}) (λ e. e ≡ file_errors.OutOfMemory)
  pub rejected : IfErr result (IsNoCcache octets)
