use Rattle.std.proofs.Common.{◌≡◌, Some, None, ◌∙◌, ap, rules}
use Rattle.cubit_io.specs.MemoryFile.{MemoryFileValue}
use Rattle.cubit_io.specs.MemoryFiles.{index_under, bytes_under}
use Rattle.cubit_io.proofs.Names.{bytes_under-set_same, bytes_under-set_other, bytes_under-push_same, bytes_under-push_other}
use Rattle.cubit_io.proofs.memory_files.MemoryFiles.keep.Goals as goal

pub returns-in-Some-clause-kept : goal.returns-in-Some-clause-kept
returns-in-Some-clause-kept c =
    let files = c.self.inside.files.items in
    let first : index_under files c.args.name.now ≡ Some c.in-Some.index = cc in
    let keeps = ap (λ (f : MemoryFileValue). f.name) c.replace.ensures in
    let bytes : c.replace.new.self.bytes ≡ c.args.bytes.now = search rules in
    bytes_under-set_same files _ _ c.index_mut.result.now _ first c.index_mut.ensures.value keeps ∙ ap Some bytes

pub returns-in-Some-clause-others : goal.returns-in-Some-clause-others
returns-in-Some-clause-others c other differs =
    let files = c.self.inside.files.items in
    let first : index_under files c.args.name.now ≡ Some c.in-Some.index = cc in
    let keeps = ap (λ (f : MemoryFileValue). f.name) c.replace.ensures in
    bytes_under-set_other files _ _ c.index_mut.result.now _ first c.index_mut.ensures.value keeps other differs
    ∙ ap (λ v. bytes_under v.files other) c.self.view_is

pub returns-in_ok-push-in-None-clause-kept : goal.returns-in_ok-push-in-None-clause-kept
returns-in_ok-push-in-None-clause-kept c =
    let files = c.self.inside.files.items in
    let file = c.in_ok-new-in-None.field-0 in
    let missing : index_under files c.args.name.now ≡ None = cc in
    let named : file.name ≡ c.args.name.now = ap (λ (f : MemoryFileValue). f.name) c.in_ok-new-in-None.ensures in
    let bytes : file.bytes ≡ c.args.bytes.now = search rules in
    rw c.in_ok-push-in-None.ensures.items (bytes_under-push_same files _ file named missing ∙ ap Some bytes)

pub returns-in_ok-push-in-None-clause-others : goal.returns-in_ok-push-in-None-clause-others
returns-in_ok-push-in-None-clause-others c other differs =
    let files = c.self.inside.files.items in
    let file = c.in_ok-new-in-None.field-0 in
    let named : file.name ≡ c.args.name.now = ap (λ (f : MemoryFileValue). f.name) c.in_ok-new-in-None.ensures in
    let passed = bytes_under-push_other files _ file named other differs in
    rw c.in_ok-push-in-None.ensures.items (passed ∙ ap (λ v. bytes_under v.files other) c.self.view_is)
