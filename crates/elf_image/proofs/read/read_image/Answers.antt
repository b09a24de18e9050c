use Rattle.std.proofs.Common.{◌≡◌, ◌∙◌, length, ap, rules}
use Rattle.std.proofs.lemmas.Result.{err_from_is_err_and}
use Rattle.elf_image.specs.Headers.{loads_of}
use Rattle.elf_image.proofs.AcceptedLemmas.{fault-file_header, fault-headers, fault-loads, file_header-of_file, has_file_header, has_headers, headers-of_file, loads-of_file}
use Rattle.elf_image.proofs.LoadLemmas.{holds_loads}
use Rattle.elf_image.proofs.read.read_image.Goals as goal

pub returns-in_err-check_file_header-clause-fault : goal.returns-in_err-check_file_header-clause-fault
returns-in_err-check_file_header-clause-fault c =
    let p = err_from_is_err_and c.from_residual.result c.from_residual.ensures.1 in
    let found = rw c.deref.ensures.value at c.in_err-check_file_header.ensures in
    rw (p.1, p.2) (λ other. fault-file_header c.args.geometry c.args.bytes.items _ found)

pub returns-in_err-check_file_header-clause-no_memory : goal.returns-in_err-check_file_header-clause-no_memory
returns-in_err-check_file_header-clause-no_memory c =
    let p = err_from_is_err_and c.from_residual.result c.from_residual.ensures.1 in
    rw (p.1, p.2) (λ same. absurd (file_header-of_file c.deref.result.now _ c.in_err-check_file_header.ensures same))

pub check_headers-requires-clause-long : goal.check_headers-requires-clause-long
check_headers-requires-clause-long c =
    let none = rw (c.deref.ensures.value, ← c.deref-2.ensures.value) at c.in_ok-check_file_header.ensures in
    has_file_header c.deref-2.result.now none

pub check_headers-requires-clause-headers : goal.check_headers-requires-clause-headers
check_headers-requires-clause-headers c =
    let none = rw (c.deref.ensures.value, ← c.deref-2.ensures.value) at c.in_ok-check_file_header.ensures in
    has_headers c.deref-2.result.now none

pub returns-in_err-check_headers-clause-fault : goal.returns-in_err-check_headers-clause-fault
returns-in_err-check_headers-clause-fault c =
    let p = err_from_is_err_and c.from_residual-in_err-check_headers.result c.from_residual-in_err-check_headers.ensures.1 in
    let none = rw c.deref.ensures.value at c.in_ok-check_file_header.ensures in
    let found = rw c.deref-2.ensures.value at c.in_err-check_headers.ensures in
    rw (p.1, p.2) (λ other. fault-headers c.args.geometry c.args.bytes.items _ none found)

pub returns-in_err-check_headers-clause-no_memory : goal.returns-in_err-check_headers-clause-no_memory
returns-in_err-check_headers-clause-no_memory c =
    let p = err_from_is_err_and c.from_residual-in_err-check_headers.result c.from_residual-in_err-check_headers.ensures.1 in
    rw (p.1, p.2) (λ same. absurd (headers-of_file c.deref-2.result.now _ c.in_err-check_headers.ensures same))

pub loads_of-requires-clause-long : goal.loads_of-requires-clause-long
loads_of-requires-clause-long c =
    let none = rw (c.deref.ensures.value, ← c.deref-3.ensures.value) at c.in_ok-check_file_header.ensures in
    has_file_header c.deref-3.result.now none

pub loads_of-requires-clause-headers : goal.loads_of-requires-clause-headers
loads_of-requires-clause-headers c =
    let none = rw (c.deref.ensures.value, ← c.deref-3.ensures.value) at c.in_ok-check_file_header.ensures in
    has_headers c.deref-3.result.now none

pub returns-in_err-check_loads-clause-fault : goal.returns-in_err-check_loads-clause-fault
returns-in_err-check_loads-clause-fault c =
    let p = err_from_is_err_and c.from_residual-in_err-check_loads.result c.from_residual-in_err-check_loads.ensures.1 in
    let none = rw c.deref.ensures.value at c.in_ok-check_file_header.ensures in
    let no_header = rw c.deref-2.ensures.value at c.in_ok-check_headers.ensures in
    let loads = c.deref-4.ensures.value ∙ c.in-Ok.ensures ∙ ap loads_of c.deref-3.ensures.value in
    let size : c.len.result ≡ length c.args.bytes.items = search rules in
    let found = rw (size, loads) at c.in_err-check_loads.ensures in
    rw (p.1, p.2) (λ other. fault-loads c.args.geometry c.args.bytes.items none no_header ∙ found)

pub returns-in_err-check_loads-clause-no_memory : goal.returns-in_err-check_loads-clause-no_memory
returns-in_err-check_loads-clause-no_memory c =
    let p = err_from_is_err_and c.from_residual-in_err-check_loads.result c.from_residual-in_err-check_loads.ensures.1 in
    rw (p.1, p.2) (λ same. absurd (loads-of_file c.args.geometry c.len.result c.deref-4.result.now _ c.in_err-check_loads.ensures same))

pub new-requires : goal.new-requires
new-requires c =
    let none = rw c.deref.ensures.value at c.in_ok-check_file_header.ensures in
    let no_header = rw c.deref-2.ensures.value at c.in_ok-check_headers.ensures in
    let loads = c.in-Ok.ensures ∙ ap loads_of c.deref-3.ensures.value in
    let size : c.len.result ≡ length c.args.bytes.items = search rules in
    let no_load = rw (size, c.deref-4.ensures.value ∙ loads) at c.in_ok-check_loads.ensures in
    record { accepted = fault-loads c.args.geometry c.args.bytes.items none no_header ∙ no_load; loads_are = loads }

pub returns-clause-loads : goal.returns-clause-loads
returns-clause-loads c = holds_loads c.args.geometry c.args.bytes.items (search rules)
