-- The forms of replies, told apart by their first two bytes.
use Rattle.std.proofs.Common.{◌≡◌, ℕ, ◌∙◌, List, ◌∷◌, ◌++◌, Some, refl, sym, ap, subst}
use Rattle.cubit_base.specs.Tuple.{TupleValue}
use Rattle.query_report.specs.declared.reader.reply.Form.{Form}
use Rattle.query_report.specs.declared.reader.reply.Form.TheVariants as form
use Rattle.query_report.specs.declared.reply.DropLine.{DropLine}
use Rattle.query_report.specs.declared.reply.Reply.{Reply}
use Rattle.query_report.specs.declared.reply.Reply.TheVariants.{Placed, Duplicate, Missing, TableFull, LogFull, DropLines, Found, Absent, Rows, Count, Sum, Q6, Merge}
use Rattle.query_report.specs.Field.{field, two_fields}
use Rattle.query_report.specs.Form.{form_of, form_at, ReadsForm}
use Rattle.query_report.specs.Reading.{Left, Reads, EndsNumber}
use Rattle.query_report.specs.Reply.{reply_bytes}
use Rattle.query_report.specs.Report.{IsReply}

-- what the front says of the form
abbrev pub Tells : Left → Form → Type 0
Tells before f = (a b : ℕ) (rest : List ℕ) → before ≡ Some (a ∷ b ∷ rest) → f ≡ form_at a b

told : (reply : Reply) (rest : List ℕ) (before : Left) (f : Form) → before ≡ Some (reply_bytes reply ++ rest)
    → Tells before f → f ≡ form_of reply
unfolding reply_bytes two_fields field
told (Placed place row) rest before f e tells = tells 112 108 _ e
told (Duplicate front row) rest before f e tells = tells 100 117 _ e
told (Missing front) rest before f e tells = tells 109 105 _ e
told (TableFull front) rest before f e tells = tells 116 97 _ e
told (LogFull front) rest before f e tells = tells 108 111 _ e
told (DropLines lines) rest before f e tells = tells 100 114 _ e
told (Found front row tuple) rest before f e tells = tells 102 111 _ e
told (Absent front) rest before f e tells = tells 97 98 _ e
told (Rows front list patched) rest before f e tells = tells 114 111 _ e
told (Count front count patched) rest before f e tells = tells 99 111 _ e
told (Sum front count sum patched) rest before f e tells = tells 115 117 _ e
told (Q6 front count sum patched) rest before f e tells = tells 113 54 _ e
told (Merge merged fresh busy) rest before f e tells = tells 109 101 _ e

-- the parts of a reply of this form
abbrev pub Parts : Form → Type 0
Parts form.Placed = ℕ × ℕ
Parts form.Duplicate = ℕ × ℕ
Parts form.Missing = ℕ
Parts form.TableFull = ℕ
Parts form.LogFull = ℕ
Parts form.DropLines = List DropLine
Parts form.Found = ℕ × ℕ × TupleValue
Parts form.Absent = ℕ
Parts form.Rows = ℕ × List ℕ × ℕ
Parts form.Count = ℕ × ℕ × ℕ
Parts form.Sum = ℕ × ℕ × ℕ × ℕ
Parts form.Q6 = ℕ × ℕ × ℕ × ℕ
Parts form.Merge = ℕ × ℕ × ℕ

-- the reply that they make
abbrev pub made : (f : Form) → Parts f → Reply
made form.Placed p = Placed p.0 p.1
made form.Duplicate p = Duplicate p.0 p.1
made form.Missing front = Missing front
made form.TableFull front = TableFull front
made form.LogFull front = LogFull front
made form.DropLines lines = DropLines lines
made form.Found p = Found p.0 p.1 p.2
made form.Absent front = Absent front
made form.Rows p = Rows p.0 p.1 p.2
made form.Count p = Count p.0 p.1 p.2
made form.Sum p = Sum p.0 p.1 p.2 p.3
made form.Q6 p = Q6 p.0 p.1 p.2 p.3
made form.Merge p = Merge p.0 p.1 p.2

-- each reply is made of its parts
parts_of : (reply : Reply) → (parts : Parts (form_of reply)) × (reply ≡ made (form_of reply) parts)
parts_of (Placed place row) = ((place, row), refl)
parts_of (Duplicate front row) = ((front, row), refl)
parts_of (Missing front) = (front, refl)
parts_of (TableFull front) = (front, refl)
parts_of (LogFull front) = (front, refl)
parts_of (DropLines lines) = (lines, refl)
parts_of (Found front row tuple) = ((front, row, tuple), refl)
parts_of (Absent front) = (front, refl)
parts_of (Rows front list patched) = ((front, list, patched), refl)
parts_of (Count front count patched) = ((front, count, patched), refl)
parts_of (Sum front count sum patched) = ((front, count, sum, patched), refl)
parts_of (Q6 front count sum patched) = ((front, count, sum, patched), refl)
parts_of (Merge merged fresh busy) = ((merged, fresh, busy), refl)

-- a reply of a form is read by reading its parts
pub form-reads : {before after : Left} (f : Form) {parts : Parts f}
    → Reads (λ parts. reply_bytes (made f parts)) (λ parts. IsReply (made f parts)) EndsNumber before parts after
    → ReadsForm f before (made f parts) after
form-reads {before = before} f {parts = parts} reads = record {
  sound = reads.sound;
  finds = λ other rest fits ends e.
      let whole = subst (λ (f : Form). (parts : Parts f) × (other ≡ made f parts)) fits.1 (parts_of other) in
      let found = reads.finds whole.0 rest (subst IsReply whole.1 fits.0) ends
      (e ∙ ap (λ other. Some (reply_bytes other ++ rest)) whole.1) in
      (whole.1 ∙ ap (made f) found.0, found.1);
}

-- and a reply of the form that the front tells is read as one of this form
pub reply-reads : {before after : Left} {reply : Reply} (f : Form) → ReadsForm f before reply after → Tells before f
    → Reads reply_bytes IsReply EndsNumber before reply after
reply-reads {before = before} f reads tells = record {
  sound = reads.sound;
  finds = λ other rest fits ends e. reads.finds other rest (fits, sym (told other rest before f e tells)) ends e;
}
