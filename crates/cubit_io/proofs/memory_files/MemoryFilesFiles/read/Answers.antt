use Rattle.std.proofs.Common.{◌≡◌, ◌<◌, length, take, drop, refl, sym, ◌∙◌, ap, rules}
use Rattle.std.proofs.lemmas.List.{take-append-drop, drop-drop}
use Rattle.cubit_io.specs.MemoryFiles.{bytes_at}
use Rattle.cubit_io.proofs.Names.{bytes_at_is}
use Rattle.cubit_io.proofs.memory_files.MemoryFilesFiles.read.Goals as goal

-- what was left is the piece and what is left now
pub returns-clause-is_read : goal.returns-clause-is_read
returns-clause-is_read c =
    let files = c.self.inside.files.items in
    let place = c.in-Some.place in
    let count = c.copy_from-count.result in
    let within : place.file < length files = search rules in
    let bytes_are = bytes_at_is files place.file c.index.result.now within c.index.ensures in
    let left = drop place.read (bytes_at files place.file) in
    let rest : c.args.self.now.rest ≡ left = search rules in
    let piece = c.copy_from-count.ensures.copied ∙ ap (λ bytes. take count (drop place.read bytes)) (sym bytes_are) in
    let after = drop-drop count place.read (bytes_at files place.file) in
    record {
      within = search rules;
      given = (_, rest ∙ sym (take-append-drop count left) ∙ rw (piece, after) refl, refl);
      end = search rules;
      cause = search rules;
      kept = search rules;
      stays = search rules;
      counted = search rules;
    }
