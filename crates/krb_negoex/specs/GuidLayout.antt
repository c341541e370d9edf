-- The layout of a GUID (MS-NEGOEX 2.2.2; MS-DTYP 2.3.4.2).
use Rattle.std.proofs.Common.{◌≡◌, ℕ, List, length, lit<, refl}
use Rattle.uuid.specs.Parts.{swap_fields}
use Rattle.krb_negoex.specs.Rejected.{IsCut}
use Rattle.krb_negoex.specs.Layouts.{Layout, plain, one_cut}
use Rattle.krb_negoex.specs.GuidLaws.{GuidPart, guid_room, one_guid, no_guid, guid_back, guid_prefix, guid_trailing}

abbrev pub guid : Layout (List ℕ)
guid = plain (record {
  width = 16;
  wide = lit< tt;
  part = GuidPart;
  same = λ v w. v ≡ w;
  fixed = swap_fields;
  readable = λ v. length v ≡ 16;
  rejects = λ f m e. IsCut 16 f e;
  room = guid_room;
  no_part = no_guid;
  one_part = one_guid;
  one_error = λ f m. one_cut 16 f;
  prefix = guid_prefix;
  trailing = guid_trailing;
  fixed_length = λ v. refl;
  reads_back = λ v m f r. guid_back v m f r;
})
