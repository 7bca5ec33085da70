-- The forms of lines: the fields of each in order, and what a field may hold.
use Rattle.std.specs.Prelude.{ℕ, codes, List, [], ◌∷◌, Option, Some, None, if◌then◌else◌}
use Rattle.std.specs.Str.{bytes_eq}
use Rattle.watch_report.specs.declared.line_form.Field.{Field}
use Rattle.watch_report.specs.declared.line_form.Field.TheVariants as fields
use Rattle.watch_report.specs.declared.line_form.FieldKind.{FieldKind}
use Rattle.watch_report.specs.declared.line_form.FieldKind.TheVariants as kinds
use Rattle.watch_report.specs.declared.line_form.LineForm.{LineForm}
use Rattle.watch_report.specs.declared.line_form.LineForm.TheVariants as forms

-- the letter says which record it is
abbrev pub form_of : List ℕ → Option LineForm
form_of letter =
    if bytes_eq letter (codes "w") then Some forms.Store
    else if bytes_eq letter (codes "s") then Some forms.SatpWrite
    else if bytes_eq letter (codes "f") then Some forms.Fence
    else if bytes_eq letter (codes "r") then Some forms.RemoteBegin
    else if bytes_eq letter (codes "e") then Some forms.RemoteEnd
    else if bytes_eq letter (codes "a") then Some forms.GiveOut
    else if bytes_eq letter (codes "z") then Some forms.GiveBack
    else if bytes_eq letter (codes "c") then Some forms.ClaimBegin
    else if bytes_eq letter (codes "d") then Some forms.ClaimEnd
    else if bytes_eq letter (codes "u") then Some forms.Use
    else None

-- the fields of the first line, and those of a record after its letter
abbrev pub form_fields : LineForm → List Field
form_fields forms.Header = fields.Watch ∷ fields.Version ∷ fields.Harts ∷ fields.Scheme ∷ []
form_fields forms.Store = fields.Hart ∷ fields.PhysicalAddress ∷ fields.Value ∷ []
form_fields forms.SatpWrite = fields.Hart ∷ fields.Satp ∷ []
form_fields forms.Fence = fields.Hart ∷ fields.Rs1 ∷ fields.Rs2 ∷ []
form_fields forms.RemoteBegin =
    fields.Hart ∷ fields.Token ∷ fields.Mask ∷ fields.Start ∷ fields.Size ∷ fields.Asid ∷ []
form_fields forms.RemoteEnd = fields.Hart ∷ fields.Token ∷ []
form_fields forms.GiveOut = fields.Hart ∷ fields.Ppn ∷ fields.Count ∷ []
form_fields forms.GiveBack = fields.Hart ∷ fields.Ppn ∷ fields.Count ∷ []
form_fields forms.ClaimBegin =
    fields.Hart ∷ fields.Token ∷ fields.Root ∷ fields.Start ∷ fields.Size ∷ []
form_fields forms.ClaimEnd = fields.Hart ∷ fields.Token ∷ []
form_fields forms.Use = fields.Hart ∷ fields.VirtualAddress ∷ []

abbrev pub kind_of : Field → FieldKind
kind_of fields.Watch = kinds.Name
kind_of fields.Version = kinds.Version
kind_of fields.Harts = kinds.HartCount
kind_of fields.Scheme = kinds.Scheme
kind_of fields.Hart = kinds.Hart
kind_of fields.PhysicalAddress = kinds.WordAddress
kind_of fields.Value = kinds.Number
kind_of fields.Satp = kinds.Satp
kind_of fields.Rs1 = kinds.Optional
kind_of fields.Rs2 = kinds.Optional
kind_of fields.Token = kinds.Number
kind_of fields.Mask = kinds.Number
kind_of fields.Start = kinds.Number
kind_of fields.Size = kinds.Number
kind_of fields.Asid = kinds.Asid
kind_of fields.Ppn = kinds.Number
kind_of fields.Count = kinds.Number
kind_of fields.Root = kinds.Optional
kind_of fields.VirtualAddress = kinds.Number

-- ---- as the table of the format writes them

abbrev pub form_text : LineForm → List ℕ
form_text forms.Header = codes "watch 1 HARTS SCHEME"
form_text forms.Store = codes "w H PA VALUE"
form_text forms.SatpWrite = codes "s H SATP"
form_text forms.Fence = codes "f H RS1 RS2"
form_text forms.RemoteBegin = codes "r H TOKEN MASK START SIZE ASID"
form_text forms.RemoteEnd = codes "e H TOKEN"
form_text forms.GiveOut = codes "a H PPN COUNT"
form_text forms.GiveBack = codes "z H PPN COUNT"
form_text forms.ClaimBegin = codes "c H TOKEN ROOT START SIZE"
form_text forms.ClaimEnd = codes "d H TOKEN"
form_text forms.Use = codes "u H VA"

abbrev pub field_name : Field → List ℕ
field_name fields.Watch = codes "watch"
field_name fields.Version = codes "version"
field_name fields.Harts = codes "HARTS"
field_name fields.Scheme = codes "SCHEME"
field_name fields.Hart = codes "H"
field_name fields.PhysicalAddress = codes "PA"
field_name fields.Value = codes "VALUE"
field_name fields.Satp = codes "SATP"
field_name fields.Rs1 = codes "RS1"
field_name fields.Rs2 = codes "RS2"
field_name fields.Token = codes "TOKEN"
field_name fields.Mask = codes "MASK"
field_name fields.Start = codes "START"
field_name fields.Size = codes "SIZE"
field_name fields.Asid = codes "ASID"
field_name fields.Ppn = codes "PPN"
field_name fields.Count = codes "COUNT"
field_name fields.Root = codes "ROOT"
field_name fields.VirtualAddress = codes "VA"
