-- `elements::is_element` meets its contract: by cases of the kind. Assumes nothing.
use Rattle.elements.proofs.is_element.Goals as goal

pub returns-in-Triangles : goal.returns-in-Triangles
returns-in-Triangles c = record { is = λ e q. rw c.in-Triangles.is }

pub returns-in-Straps : goal.returns-in-Straps
returns-in-Straps c = record { is = λ e q. rw (c.in-Straps.is, q) }

pub returns-in-Nothing : goal.returns-in-Nothing
returns-in-Nothing c = record { is = λ e q. rw c.in-Nothing.is }
