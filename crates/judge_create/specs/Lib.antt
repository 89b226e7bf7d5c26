pub mod Creation
